-- Names found by the places of their texts.
use Rattle.std.proofs.Common.{◌≡◌, inl, inr, ℕ, suc, ◌+◌, ◌<◌, Bool, true, false, cond, ◌||◌, List, [], ◌∷◌, ◌++◌, length, Option, Some, None, refl, sym, ap, ◌∙◌, arith}
use Rattle.std.specs.Prelude.{Vec, position, encode_utf8_all}
use Rattle.std.specs.declared.alloc.Global.{Global}
use Rattle.std.specs.BTreeMap.{BTreeMap, Updates, UpdatesBy, is_at}
use Rattle.std.specs.Cmp.Lexicographic.{slice_cmp, bytes_decides, nat_list_eq_equiv, nat_list_cmp_total}
use Rattle.std.specs.List.{list_any, position_from}
use Rattle.std.specs.Map.{lookup, IsKeyTest, AreApart, KeepsOthers}
use Rattle.std.specs.Option.{is_some}
use Rattle.std.specs.Ordering.{is_eq, eq_by_cmp, nat_cmp}
use Rattle.std.specs.declared.cmp.Ordering.{Ordering}
use Rattle.std.specs.Str.{bytes_eq}
use Rattle.std.proofs.lemmas.Bool.{cases_Bool}
use Rattle.std.proofs.lemmas.Cmp.{eq_by_cmp_equiv}
use Rattle.std.proofs.lemmas.Iterator.Adapters.{position_from-zero}
use Rattle.std.proofs.lemmas.List.Quantifiers.{position-Some}
use Rattle.std.proofs.lemmas.Map.Text.{is_eq-slice_cmp}
use Rattle.cc_base.specs.NameTexts.{bytes_eq-encodes}
use Rattle.cc_names.specs.Places.{place_in, FindsPlaces}

-- whether a text is that of a name
abbrev pub spells : List ℕ → List ℕ → Bool
spells text name = bytes_eq text (encode_utf8_all name)

-- the place that is found is that of the first name of the text
pub found_place : (text : List ℕ) (names : List (List ℕ)) (place : Option ℕ) → place ≡ position_from (spells text) 0 names
    → place ≡ position (spells text) names
found_place text names place is = is ∙ sym (position_from-zero (spells text) names)

-- by its text a name is found where it stands
pub name_found : (name : List ℕ) (names : List (List ℕ))
    → position (spells (encode_utf8_all name)) names ≡ position (bytes_eq name) names
name_found name names = λ i. position (λ other. bytes_eq-encodes name other i) names

some_found : (p : List ℕ → Bool) (n : ℕ) (names : List (List ℕ)) → is_some (position_from p n names) ≡ list_any p names
some_found p n [] = refl
some_found p n (name ∷ names) = by (p name) (some_found p (n + 1) names)
  where
    by : (b : Bool) → is_some (position_from p (n + 1) names) ≡ list_any p names
        → is_some (cond b (Some n) (position_from p (n + 1) names)) ≡ (b || list_any p names)
    by true rest = refl
    by false rest = rest

-- a place is found exactly where a name passes
pub any_found : (p : List ℕ → Bool) (names : List (List ℕ)) → is_some (position p names) ≡ list_any p names
any_found p names = ap is_some (position_from-zero p names) ∙ some_found p 0 names

-- a place that is found is one of so many
pub place_within : (p : List ℕ → Bool) (names : List (List ℕ)) (place : ℕ) → Some place ≡ position p names
    → place < length names
place_within p names place is = (position-Some p names place [] (sym is)).0

-- where a name more puts what is found
one_more : (p : List ℕ → Bool) (n : ℕ) (names : List (List ℕ)) (name : List ℕ)
    → position_from p n (names ++ name ∷ [])
    ≡ cond (list_any p names) (position_from p n names) (cond (p name) (Some (n + length names)) None)
one_more p n [] name = let same : n ≡ n + 0 = omega arith in ap (λ m. cond (p name) (Some m) None) same
one_more p n (first ∷ names) name = by (p first) (one_more p (n + 1) names name)
  where
    by : (b : Bool) → position_from p (n + 1) (names ++ name ∷ [])
        ≡ cond (list_any p names) (position_from p (n + 1) names) (cond (p name) (Some (n + 1 + length names)) None)
        → cond b (Some n) (position_from p (n + 1) (names ++ name ∷ []))
        ≡ cond (b || list_any p names) (cond b (Some n) (position_from p (n + 1) names)) (cond (p name) (Some (n + suc (length names))) None)
    by true rest = refl
    by false rest =
        let same : n + 1 + length names ≡ n + suc (length names) = omega arith in
        rest ∙ ap (λ m. cond (list_any p names) (position_from p (n + 1) names) (cond (p name) (Some m) None)) same

-- a key that is a text, compared by its bytes
abbrev Key : Type 0
Key = Vec ℕ Global

abbrev compare_keys : Key → Key → Ordering
compare_keys a b = slice_cmp nat_cmp a.items b.items

apart : (bs cs ks : List ℕ) → bytes_eq bs cs ≡ false → is_eq (slice_cmp nat_cmp bs ks) ≡ true
    → is_eq (slice_cmp nat_cmp cs ks) ≡ false
apart bs cs ks differ same =
    is_eq-slice_cmp cs ks ∙ nat_list_eq_equiv.symm cs ks
    ∙ sym (nat_list_eq_equiv.congr bs ks cs (sym (is_eq-slice_cmp bs ks) ∙ same)) ∙ differ

other_entries : (test : Key → Bool) (old new : List (Key × ℕ)) → KeepsOthers (eq_by_cmp compare_keys) test old new
    → (other : Key → Bool) → IsKeyTest (eq_by_cmp compare_keys) other → AreApart test other
    → lookup other new ≡ lookup other old
unfolding KeepsOthers
other_entries test old new kept = kept

-- what a text has, once another was given a place
pub given : (old new : BTreeMap Key ℕ) (key : List ℕ) (place : Option ℕ)
    → UpdatesBy compare_keys (λ k. slice_cmp nat_cmp key k.items) old new place
    → (text : List ℕ) → place_in new text ≡ cond (bytes_eq key text) place (place_in old text)
given old new key place updates text =
    elim (cases_Bool (bytes_eq key text)) [
      | inl same ↦
          ap (place_in new) (sym ((bytes_decides key text).0 same)) ∙ updates.1
          ∙ sym (ap (λ b. cond b place (place_in old text)) same)
      | inr differ ↦
          other_entries (is_at (λ k. slice_cmp nat_cmp key k.items)) old.entries new.entries updates.3
          (is_at (λ k. slice_cmp nat_cmp text k.items))
          (λ x y. (eq_by_cmp_equiv nat_list_cmp_total).congr text x.items y.items) (λ k. apart key text k.items differ)
          ∙ sym (ap (λ b. cond b place (place_in old text)) differ)
    ]

-- the place that a text had is given to it again
pub put_back : (old between new : BTreeMap Key ℕ) (key text : List ℕ) (place : ℕ) (earlier : ℕ) → key ≡ text
    → UpdatesBy compare_keys (λ k. slice_cmp nat_cmp key k.items) old between (Some place) → Some earlier ≡ place_in old key
    → ((other : List ℕ) → place_in new other ≡ cond (bytes_eq text other) (Some earlier) (place_in between other))
    → (other : List ℕ) → place_in new other ≡ place_in old other
put_back old between new key text place earlier spelled updates was back other =
    back other
    ∙ elim (cases_Bool (bytes_eq text other)) [
      | inl same ↦
          ap (λ b. cond b (Some earlier) (place_in between other)) same ∙ was
          ∙ ap (place_in old) (spelled ∙ (bytes_decides text other).0 same)
      | inr differ ↦
          ap (λ b. cond b (Some earlier) (place_in between other)) differ
          ∙ given old between key (Some place) updates other
          ∙ ap (λ b. cond b (Some place) (place_in old other)) (ap (λ k. bytes_eq k other) spelled ∙ differ)
    ]

-- whether a name's text has a place says whether the name is one of these
pub placed_any : (places : BTreeMap Key ℕ) (names : List (List ℕ)) (key name : List ℕ) (found : Option ℕ)
    → FindsPlaces places names → key ≡ encode_utf8_all name → found ≡ place_in places key
    → list_any (bytes_eq name) names ≡ is_some found
placed_any places names key name found finds spelled is =
    sym (ap is_some (is ∙ ap (place_in places) spelled ∙ finds (encode_utf8_all name))
    ∙ some_found (spells (encode_utf8_all name)) 0 names
    ∙ (λ i. list_any (λ other. bytes_eq-encodes name other i) names))

or_none : (o : Option ℕ) → cond (is_some o) o None ≡ o
or_none None = refl
or_none (Some place) = refl

-- one name more stands behind the others
pub one_placed : (old new : BTreeMap Key ℕ) (names : List (List ℕ)) (name : List ℕ) (key : Key) (place : ℕ)
    → FindsPlaces old names → key.items ≡ encode_utf8_all name → place ≡ length names
    → list_any (bytes_eq name) names ≡ false → Updates compare_keys old new key (Some place)
    → FindsPlaces new (names ++ name ∷ [])
one_placed old new names name key place finds spelled last none updates text =
    given old new key.items (Some place) updates text ∙ at (bytes_eq text (encode_utf8_all name)) refl
    ∙ sym (one_more (spells text) 0 names name)
  where
    at : (b : Bool) → bytes_eq text (encode_utf8_all name) ≡ b
        → cond (bytes_eq key.items text) (Some place) (place_in old text)
        ≡ cond (list_any (spells text) names) (position_from (spells text) 0 names) (cond b (Some (0 + length names)) None)
    at true same =
        let here : place ≡ 0 + length names = omega (arith, last) in
        ap (λ b. cond b (Some place) (place_in old text)) (nat_list_eq_equiv.symm key.items text ∙ ap (bytes_eq text) spelled ∙ same)
        ∙ ap (λ n. Some n) here
        ∙ sym (ap (λ b. cond b (position_from (spells text) 0 names) (Some (0 + length names)))
        (ap (λ t. list_any (spells t) names) ((bytes_decides text (encode_utf8_all name)).0 same)
        ∙ (λ i. list_any (λ other. bytes_eq-encodes name other i) names) ∙ none))
    at false differ =
        ap (λ b. cond b (Some place) (place_in old text)) (nat_list_eq_equiv.symm key.items text ∙ ap (bytes_eq text) spelled ∙ differ)
        ∙ finds text
        ∙ sym (or_none (position_from (spells text) 0 names))
        ∙ ap (λ b. cond b (position_from (spells text) 0 names) None) (some_found (spells text) 0 names)
