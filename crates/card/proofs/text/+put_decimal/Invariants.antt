-- The measure of `put_decimal`, which calls itself with a smaller number.
use Rattle.card.proofs.text.+put_decimal.Given as goal

abbrev pub decreases-put_decimal : goal.decreases-put_decimal
decreases-put_decimal l = l.number
