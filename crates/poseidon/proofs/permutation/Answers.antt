-- `poseidon::permutation` meets its contract: the tables that it lends are the field's.
-- Assumes nothing.
use mathlib.Core.Path.{sym, ap, ◌∙◌}
use Rattle.poseidon.specs.Tables.{tables_of}
use Rattle.poseidon.proofs.permutation.Goals as goal

pub returns-in-BabyBear : goal.returns-in-BabyBear
returns-in-BabyBear c = c.permutation_by.ensures (c.baby_bear.ensures ∙ ap tables_of (sym c.in-BabyBear.is))

pub returns-in-KoalaBear : goal.returns-in-KoalaBear
returns-in-KoalaBear c = c.permutation_by-in-KoalaBear.ensures (c.koala_bear.ensures ∙ ap tables_of (sym c.in-KoalaBear.is))
