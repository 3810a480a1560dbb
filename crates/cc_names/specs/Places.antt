-- Where names stand, found by their texts. It serves the code alone.
use Rattle.std.specs.Prelude.{◌≡◌, ℕ, List, Vec, Option, encode_utf8_all}
use Rattle.std.specs.declared.alloc.Global.{Global}
use Rattle.std.specs.BTreeMap.{BTreeMap, get_by}
use Rattle.std.specs.Cmp.Lexicographic.{slice_cmp}
use Rattle.std.specs.List.{position_from}
use Rattle.std.specs.Ordering.{nat_cmp}
use Rattle.std.specs.Str.{bytes_eq}

-- the place of the text, if it has one
abbrev pub place_in : BTreeMap (Vec ℕ Global) ℕ → List ℕ → Option ℕ
place_in places text = get_by (λ key. slice_cmp nat_cmp text key.items) places

-- each name's text leads to the name
abbrev pub FindsPlaces : BTreeMap (Vec ℕ Global) ℕ → List (List ℕ) → Type 0
FindsPlaces places names =
    (text : List ℕ) → place_in places text ≡ position_from (λ name. bytes_eq text (encode_utf8_all name)) 0 names
