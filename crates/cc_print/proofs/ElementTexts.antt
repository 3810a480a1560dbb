-- Variables and elements are one where their texts are.
use Rattle.std.proofs.Common.{◌≡◌, ℕ, zero, suc, ◌+◌, ◌-◌, ◌^◌, ◌<◌, ◌≤◌, Bool, true, false, ◌==◌, List, [], ◌∷◌, ◌++◌, length, decimal, refl, sym, ap, subst, ◌∙◌, arith, append_assoc, ⊎_elim, codes, bytes_eq, slice_index_or, if◌then◌else◌, nat_lt}
use Rattle.std.specs.Prelude.{encode_utf8_all}
use Rattle.std.specs.List.{AllByRecursion, IsDistinct}
use Rattle.std.proofs.lemmas.Bool.{cases_lt}
use Rattle.std.proofs.lemmas.Bool.Decides.{Decides-eqb, Decides-ltb, nat_tests}
use Rattle.std.proofs.lemmas.Fmt.{decimal_injective}
use Rattle.std.proofs.lemmas.List.{append_cancel_left}
use Rattle.std.proofs.lemmas.Map.Keys.{apart_from_distinct}
use Rattle.std.proofs.lemmas.Slice.Eq.{bytes_eq-Decides}
use Rattle.std.proofs.lemmas.Str.{encodes_same}
use Rattle.cc_base.specs.Names.{IsName, is_reserved, reserved_words}
use Rattle.cc_capture.specs.declared.var.Var.{Var}
use Rattle.cc_capture.specs.declared.var.Var.TheVariants.{Bound, Free}
use Rattle.cc_capture.specs.declared.var.Elem.{Elem}
use Rattle.cc_capture.specs.declared.var.Elem.TheVariants.{Var as Variable, Cap, Hole}
use Rattle.cc_core.specs.Occurrences.{Condition}
use Rattle.cc_print.specs.TypeTexts.{position_text, variable_text, element_text, others_text, elements_text}
use Rattle.cc_print.proofs.Words.{IsWord, EndsWord, clash, first_same, rest_same, same_words, word_append, word_name, word_decimal, name_no_low_line, name_some, name_not_reserved, low_line_not_reserved}

chosen : (b : Bool) (x y : List ℕ) → b ≡ true → (if b then x else y) ≡ x
chosen true x y h = refl
chosen false x y h = absurd (clash false h refl)

chosen_other : (b : Bool) (x y : List ℕ) → b ≡ false → (if b then x else y) ≡ y
chosen_other true x y h = absurd (clash true refl h)
chosen_other false x y h = refl

-- The variable is one of the positions that have names or of so many local ones behind them, or has its binder among
-- those that stand inside the local ones.
abbrev pub IsPlaced : ℕ → ℕ → ℕ → Var → Type 0
IsPlaced positions locals depth (Bound index) = (index + locals < depth) × (depth ≤ 2 ^ 64)
IsPlaced positions locals depth (Free position) = (position < positions + locals) × (locals ≤ 2 ^ 64)

-- the same of an element, which is no hole
abbrev pub IsPlacedElement : ℕ → ℕ → ℕ → Elem → Type 0
IsPlacedElement positions locals depth (Variable variable) = IsPlaced positions locals depth variable
IsPlacedElement positions locals depth Cap = Unit {0}
IsPlacedElement positions locals depth (Hole number) = ⊥

abbrev pub placed : ℕ → ℕ → Condition
placed positions locals = record {
  element = IsPlacedElement positions locals;
  shape = IsPlaced positions locals;
  variable = IsPlaced positions locals;
}

pub named_at : (names : List (List ℕ)) → AllByRecursion IsName names → (p : ℕ) → p < length names
    → IsName (slice_index_or names p [])
named_at [] all p low = absurd (omega arith)
named_at (name ∷ names) all zero low = all.0
named_at (name ∷ names) all (suc p) low = named_at names all.1 p (omega arith)

number_small : (depth index locals : ℕ) → (index + locals < depth) × (depth ≤ 2 ^ 64) → depth - 1 - index < 2 ^ 64
number_small depth index locals h = omega (arith, h.0, h.1)

number_same : (depth i j locals : ℕ) → i + locals < depth → j + locals < depth → depth - 1 - i ≡ depth - 1 - j → i ≡ j
number_same depth i j locals p q e = omega (arith, p, q, e)

not_below : (p n : ℕ) → n ≤ p → nat_lt p n ≡ false
not_below p n high = grind (arith, nat_tests)

apart_numbers : (depth index p n locals : ℕ) → index + locals < depth → p < n + locals → n ≤ p → depth - 1 - index ≡ p - n → ⊥
apart_numbers depth index p n locals h k high e = omega (arith, h, k, high, e)

same_local : (p q n : ℕ) → n ≤ p → n ≤ q → p - n ≡ q - n → p ≡ q
same_local p q n high high' e = omega (arith, high, high', e)

-- bytes that differ begin different texts
pub ends_differ : (b c : ℕ) (bs cs : List ℕ) → (b == c) ≡ false → b ∷ bs ≡ c ∷ cs → ⊥
ends_differ b c bs cs other e = clash (b == c) ((Decides-eqb b c).1 (first_same b c bs cs e)) other

module _ (names : List (List ℕ)) (locals : ℕ) (all : AllByRecursion IsName names) (apart : IsDistinct bytes_eq names) where
  pub listed_text : (prefix : List ℕ) (p : ℕ) → p < length names
      → position_text names prefix p ≡ encode_utf8_all (slice_index_or names p [])
  listed_text prefix p low = chosen (nat_lt p (length names)) _ _ ((Decides-ltb p (length names)).1 low)

  pub local_text : (prefix : List ℕ) (p : ℕ) → length names ≤ p
      → position_text names prefix p ≡ prefix ++ decimal (p - length names)
  local_text prefix p high = chosen_other (nat_lt p (length names)) _ _ (not_below p (length names) high)

  local_small : (p : ℕ) → (p < length names + locals) × (locals ≤ 2 ^ 64) → length names ≤ p → p - length names < 2 ^ 64
  local_small p h high = omega (arith, h.0, h.1)

  pub variable_word : (depth : ℕ) (prefix : List ℕ) (v : Var) → IsWord prefix → IsPlaced (length names) locals depth v
      → IsWord (variable_text names depth prefix v)
  variable_word depth prefix (Bound index) word h =
      word_append prefix (decimal (depth - 1 - index)) word
      (word_decimal (depth - 1 - index) (number_small depth index locals h))
  variable_word depth prefix (Free p) word h =
      ⊎_elim
      (λ low. subst IsWord (sym (listed_text prefix p low)) (word_name (slice_index_or names p []) (named_at names all p low)))
      (λ high. subst IsWord (sym (local_text prefix p high)) (word_append prefix (decimal (p - length names)) word (word_decimal (p - length names) (local_small p h high))))
      (cases_lt p (length names))

  -- a prefix that begins with a low line is that of no name
  pub variable_not_reserved : (depth : ℕ) (prefix : List ℕ) (v : Var) → IsPlaced (length names) locals depth v
      → is_reserved (variable_text names depth (95 ∷ prefix) v) ≡ false
  variable_not_reserved depth prefix (Bound index) h = low_line_not_reserved (prefix ++ decimal (depth - 1 - index))
  variable_not_reserved depth prefix (Free p) h =
      ⊎_elim
      (λ low. ap is_reserved (listed_text (95 ∷ prefix) p low) ∙ name_not_reserved (slice_index_or names p []) (named_at names all p low))
      (λ high. ap is_reserved (local_text (95 ∷ prefix) p high) ∙ low_line_not_reserved (prefix ++ decimal (p - length names)))
      (cases_lt p (length names))

  some_there : (prefix text : List ℕ) → text ≡ [] → text ≡ 95 ∷ prefix → ⊥
  some_there prefix text e f = cc

  pub variable_some : (depth : ℕ) (prefix : List ℕ) (v : Var) → IsPlaced (length names) locals depth v
      → variable_text names depth (95 ∷ prefix) v ≡ [] → ⊥
  variable_some depth prefix (Bound index) h e = cc
  variable_some depth prefix (Free p) h e =
      ⊎_elim
      (λ low. name_some (slice_index_or names p []) (named_at names all p low) (sym (listed_text (95 ∷ prefix) p low) ∙ e))
      (λ high. some_there (prefix ++ decimal (p - length names)) _ e (local_text (95 ∷ prefix) p high))
      (cases_lt p (length names))

  apart_at : (p q : ℕ) → p < q → q < length names → slice_index_or names p [] ≡ slice_index_or names q [] → ⊥
  apart_at p q less low same =
      clash (bytes_eq (slice_index_or names p []) (slice_index_or names q []))
      ((bytes_eq-Decides (slice_index_or names p []) (slice_index_or names q [])).1 same)
      (apart_from_distinct bytes_eq names p q [] apart less low)

  same_place : (p q : ℕ) → p < length names → q < length names
      → slice_index_or names p [] ≡ slice_index_or names q [] → p ≡ q
  same_place p q low low' same =
      ⊎_elim (λ less. absurd (apart_at p q less low' same))
      (λ above. ⊎_elim (λ less. absurd (apart_at q p less low (sym same))) (λ below. omega (arith, above, below)) (cases_lt q p))
      (cases_lt p q)

  -- a name is no text that begins with a low line
  numbered_or_listed : (prefix : List ℕ) (number p : ℕ) → p < length names
      → 95 ∷ (prefix ++ decimal number) ≡ position_text names (95 ∷ prefix) p → ⊥
  numbered_or_listed prefix number p low e =
      name_no_low_line (slice_index_or names p []) (prefix ++ decimal number) (named_at names all p low)
      (sym (listed_text (95 ∷ prefix) p low) ∙ sym e)

  -- numbers behind the same prefix
  numbers_same : (prefix : List ℕ) (m n : ℕ) → m < 2 ^ 64 → n < 2 ^ 64
      → 95 ∷ (prefix ++ decimal m) ≡ 95 ∷ (prefix ++ decimal n) → m ≡ n
  numbers_same prefix m n small small' e =
      decimal_injective m n small small' (append_cancel_left (95 ∷ prefix) (decimal m) (decimal n) e)

  bound_or_free : (depth : ℕ) (prefix : List ℕ) (index p : ℕ) → IsPlaced (length names) locals depth (Bound index)
      → IsPlaced (length names) locals depth (Free p)
      → variable_text names depth (95 ∷ prefix) (Bound index) ≡ variable_text names depth (95 ∷ prefix) (Free p) → ⊥
  bound_or_free depth prefix index p h k e =
      ⊎_elim (λ low. numbered_or_listed prefix (depth - 1 - index) p low e)
      (λ high. apart_numbers depth index p (length names) locals h.0 k.0 high
      (numbers_same prefix (depth - 1 - index) (p - length names) (number_small depth index locals h) (local_small p k high)
      (e ∙ local_text (95 ∷ prefix) p high)))
      (cases_lt p (length names))

  both_free : (prefix : List ℕ) (p q : ℕ) → (p < length names + locals) × (locals ≤ 2 ^ 64)
      → (q < length names + locals) × (locals ≤ 2 ^ 64)
      → position_text names (95 ∷ prefix) p ≡ position_text names (95 ∷ prefix) q → p ≡ q
  both_free prefix p q h k e =
      ⊎_elim
      (λ low. ⊎_elim
      (λ low'. same_place p q low low' (encodes_same (slice_index_or names p []) (slice_index_or names q [])
      (sym (listed_text (95 ∷ prefix) p low) ∙ e ∙ listed_text (95 ∷ prefix) q low')))
      (λ high'. absurd (numbered_or_listed prefix (q - length names) p low (sym (local_text (95 ∷ prefix) q high') ∙ sym e)))
      (cases_lt q (length names)))
      (λ high. ⊎_elim
      (λ low'. absurd (numbered_or_listed prefix (p - length names) q low' (sym (local_text (95 ∷ prefix) p high) ∙ e)))
      (λ high'. same_local p q (length names) high high'
      (numbers_same prefix (p - length names) (q - length names) (local_small p h high) (local_small q k high')
      (sym (local_text (95 ∷ prefix) p high) ∙ e ∙ local_text (95 ∷ prefix) q high')))
      (cases_lt q (length names)))
      (cases_lt p (length names))

  -- variables are one where their texts are
  pub variable_same : (depth : ℕ) (prefix : List ℕ) (v w : Var) → IsPlaced (length names) locals depth v
      → IsPlaced (length names) locals depth w
      → variable_text names depth (95 ∷ prefix) v ≡ variable_text names depth (95 ∷ prefix) w → v ≡ w
  variable_same depth prefix (Bound i) (Bound j) h k e =
      let numbers = numbers_same prefix (depth - 1 - i) (depth - 1 - j) (number_small depth i locals h)
      (number_small depth j locals k) e in
      ap Bound (number_same depth i j locals h.0 k.0 numbers)
  variable_same depth prefix (Bound i) (Free q) h k e = absurd (bound_or_free depth prefix i q h k e)
  variable_same depth prefix (Free p) (Bound j) h k e = absurd (bound_or_free depth prefix j p k h (sym e))
  variable_same depth prefix (Free p) (Free q) h k e = ap Free (both_free prefix p q h k e)

  pub element_word : (depth : ℕ) (e : Elem) → IsPlacedElement (length names) locals depth e → IsWord (element_text names depth e)
  element_word depth (Variable v) h = variable_word depth (codes "_") v (refl, tt) h
  element_word depth Cap h = (refl, (refl, (refl, tt)))
  element_word depth (Hole number) h = absurd h

  cap_reserved : is_reserved (codes "cap") ≡ true
  unfolding is_reserved reserved_words
  cap_reserved = refl

  variable_or_cap : (depth : ℕ) (v : Var) → IsPlaced (length names) locals depth v
      → variable_text names depth (codes "_") v ≡ codes "cap" → ⊥
  variable_or_cap depth v h e =
      clash (is_reserved (codes "cap")) cap_reserved (sym (ap is_reserved e) ∙ variable_not_reserved depth [] v h)

  element_same : (depth : ℕ) (a b : Elem) → IsPlacedElement (length names) locals depth a → IsPlacedElement (length names) locals depth b
      → element_text names depth a ≡ element_text names depth b → a ≡ b
  element_same depth (Variable v) (Variable w) h k e = ap Variable (variable_same depth [] v w h k e)
  element_same depth (Variable v) Cap h k e = absurd (variable_or_cap depth v h e)
  element_same depth Cap (Variable w) h k e = absurd (variable_or_cap depth w k (sym e))
  element_same depth Cap Cap h k e = refl
  element_same depth (Variable v) (Hole number) h k e = absurd k
  element_same depth Cap (Hole number) h k e = absurd k
  element_same depth (Hole number) b h k e = absurd h

  -- behind an element stand others, or the end of the set
  pub others_end : (depth : ℕ) (es : List Elem) (r : List ℕ) → EndsWord (others_text names depth es ++ 125 ∷ r)
  others_end depth [] r = refl
  others_end depth (e ∷ es) r = refl

  -- what stands behind the front of an element
  behind : (depth : ℕ) (e : Elem) (es : List Elem) (r : List ℕ)
      → (element_text names depth e ++ others_text names depth es) ++ r
      ≡ element_text names depth e ++ (others_text names depth es ++ r)
  behind depth e es r = append_assoc (element_text names depth e) (others_text names depth es) r

  others_same : (depth : ℕ) (es fs : List Elem) (r s : List ℕ) → AllByRecursion (IsPlacedElement (length names) locals depth) es
      → AllByRecursion (IsPlacedElement (length names) locals depth) fs
      → others_text names depth es ++ 125 ∷ r ≡ others_text names depth fs ++ 125 ∷ s → (es ≡ fs) × (r ≡ s)
  others_same depth [] [] r s h k e = (refl, rest_same 125 125 r s e)
  others_same depth [] (f ∷ fs) r s h k e = absurd (ends_differ 125 44 _ _ refl e)
  others_same depth (e ∷ es) [] r s h k eq = absurd (ends_differ 125 44 _ _ refl (sym eq))
  others_same depth (e ∷ es) (f ∷ fs) r s h k eq =
      let inner = rest_same 32 32 _ _ (rest_same 44 44 _ _ eq) in
      let texts = sym (behind depth e es (125 ∷ r)) ∙ inner ∙ behind depth f fs (125 ∷ s) in
      let words = same_words (element_text names depth e) (element_text names depth f) _ _ (element_word depth e h.0)
      (element_word depth f k.0) (others_end depth es r) (others_end depth fs s) texts in
      let rest = others_same depth es fs r s h.1 k.1 words.1 in
      let first = element_same depth e f h.0 k.0 words.0 in
      ((λ i. first i ∷ rest.0 i), rest.1)

  -- elements are the same where their texts are, up to the end of the set
  pub elements_same : (depth : ℕ) (e f : Elem) (es fs : List Elem) (r s : List ℕ)
      → AllByRecursion (IsPlacedElement (length names) locals depth) (e ∷ es)
      → AllByRecursion (IsPlacedElement (length names) locals depth) (f ∷ fs)
      → elements_text names depth (e ∷ es) ++ 125 ∷ r ≡ elements_text names depth (f ∷ fs) ++ 125 ∷ s
      → (e ∷ es ≡ f ∷ fs) × (r ≡ s)
  elements_same depth e f es fs r s h k eq =
      let texts = sym (behind depth e es (125 ∷ r)) ∙ eq ∙ behind depth f fs (125 ∷ s) in
      let words = same_words (element_text names depth e) (element_text names depth f) _ _ (element_word depth e h.0)
      (element_word depth f k.0) (others_end depth es r) (others_end depth fs s) texts in
      let rest = others_same depth es fs r s h.1 k.1 words.1 in
      let first = element_same depth e f h.0 k.0 words.0 in
      ((λ i. first i ∷ rest.0 i), rest.1)
