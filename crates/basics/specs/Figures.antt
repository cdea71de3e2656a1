-- "Fixed figures of the session: rate 8, capacity 16, width 24." From document 01, "Field and permutation".
use Rattle.std.specs.Prelude.{ℕ}

-- how many outer elements the state has: those that are absorbed into and squeezed from
abbrev pub rate : ℕ
rate = 8

-- how many inner elements it has
abbrev pub capacity : ℕ
capacity = 16

-- how many it has in all
abbrev pub width : ℕ
width = 24
