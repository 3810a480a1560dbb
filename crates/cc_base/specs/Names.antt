-- Names, as lists of code points.
use Rattle.std.specs.Prelude.{ℕ, Bool, false, ◌&&◌, not, List, [], ◌∷◌, codes, IsTrue, encode_utf8_all}
use Rattle.std.specs.Str.{bytes_eq}
use Rattle.std.specs.List.{list_all, list_any}
use Rattle.std.specs.Cmp.Lexicographic.{slice_cmp}
use Rattle.std.specs.Ordering.{is_lt, nat_cmp, on}
use Rattle.std.specs.declared.cmp.Ordering.{Ordering}
use Rattle.unicode_ident.specs.Ident.{is_xid_start, is_xid_continue}

-- there is a first code point, and it passes the test
abbrev pub first_passes : (ℕ → Bool) → List ℕ → Bool
first_passes test [] = false
first_passes test (c ∷ cs) = test c

-- the words of the language, which name nothing
unfoldable pub reserved_words : List (List ℕ)
reserved_words =
    codes "import" ∷ codes "def" ∷ codes "rec" ∷ codes "fun" ∷ codes "val" ∷
    codes "if" ∷ codes "then" ∷ codes "else" ∷ codes "box" ∷ codes "unbox" ∷
    codes "boundary" ∷ codes "exit" ∷ codes "repeat" ∷ codes "true" ∷ codes "false" ∷
    codes "unit" ∷ codes "cap" ∷ codes "Unit" ∷ codes "Bool" ∷ codes "Int" ∷
    codes "Str" ∷ codes "Any" ∷ codes "Console" ∷ codes "File" ∷ codes "Counter" ∷
    codes "Exit" ∷ codes "Box" ∷
    []

-- one of the reserved words
unfoldable pub is_reserved : List ℕ → Bool
is_reserved cs = list_any (λ word. bytes_eq word cs) reserved_words

-- A name begins with a character that may start an identifier and goes on with those that may continue one (XID start
-- and XID continue of Unicode's annex 31), and is no reserved word.
abbrev pub spells_name : List ℕ → Bool
spells_name cs = first_passes is_xid_start cs && list_all is_xid_continue cs && not (is_reserved cs)

abbrev pub IsName : List ℕ → Type 0
IsName cs = IsTrue (spells_name cs)

-- the order of names as texts
abbrev pub compare_names : List ℕ → List ℕ → Ordering
compare_names = on encode_utf8_all (slice_cmp nat_cmp)

-- whether a name comes before another in the order of texts
abbrev pub is_name_before : List ℕ → List ℕ → Bool
is_name_before left right = is_lt (compare_names left right)
