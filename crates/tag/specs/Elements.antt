-- The tag's elements, from the digest of a tag string. From document 01, "Tags".
use Rattle.std.specs.Prelude.{List, ℕ, ◌%◌, ◌^◌}
use Rattle.basics.specs.Lists.{tabulate}
use Rattle.tag.specs.TagString.{word_at}

-- "Read the 32 digest bytes as eight words, highest byte first; keep the low 30 bits of each word."
unfoldable pub tag_elements : List ℕ → List ℕ
tag_elements digest = tabulate 8 (λ k. word_at digest k % 2 ^ 30)
