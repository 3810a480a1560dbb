-- What is read as variables, elements and sets.
use Rattle.std.proofs.Common.{◌≡◌, ℕ, zero, suc, ◌+◌, ◌^◌, ◌<◌, ◌≤◌, Bool, true, false, ◌==◌, ◌&&◌, cond, List, [], ◌∷◌, ◌++◌, map, Option, Some, None, length, decimal, codes, bytes_eq, slice_index_or, refl, sym, ap, subst, ◌∙◌, arith, append_assoc}
use Rattle.std.specs.Prelude.{nat_lt, encode_utf8_all}
use Rattle.std.specs.Option.{option_map}
use Rattle.std.specs.List.{AllByRecursion, IsDistinct, flat_map}
use Rattle.std.proofs.lemmas.Bool.{true≢false, and_parts, and_from}
use Rattle.std.proofs.lemmas.Bool.Decides.{Decides-eqb, Decides-ltb}
use Rattle.std.proofs.lemmas.Slice.Eq.{bytes_eq-Decides}
use Rattle.std.proofs.lemmas.Map.Keys.{apart_from_distinct}
use Rattle.cc_base.specs.Names.{IsName, is_reserved, reserved_words}
use Rattle.cc_base.specs.NameTexts.{bytes_eq-encodes}
use Rattle.cc_capture.specs.declared.var.Var.{Var}
use Rattle.cc_capture.specs.declared.var.Var.TheVariants.{Bound, Free}
use Rattle.cc_capture.specs.declared.var.Elem.{Elem}
use Rattle.cc_capture.specs.declared.var.Elem.TheVariants.{Var as Variable, Cap, Hole}
use Rattle.cc_words.specs.Words.{joined, after_prefix, cut_at, split_at, first_and_rest, all_of, number_of, ◌>>=◌}
use Rattle.cc_words.proofs.Steps.{some_from_bind, after_prefix_gives, after_prefix-append, cut_at_gives, cut_at-append, Lacks, Lacks-append}
use Rattle.cc_words.proofs.NameBytes.{Lacks-name}
use Rattle.cc_words.proofs.Numbers.{Lacks-decimal, all_of_gives, all_of-map, AllLack-map}
use Rattle.cc_words.proofs.Splits.{AllLack, joined-split_at, split_at-joined, Lacks-joined}
use Rattle.cc_print.specs.TypeTexts.{numbered, position_text, variable_text, element_text, others_text, elements_text}
use Rattle.cc_print.proofs.ElementTexts.{ends_differ}
use Rattle.cc_print.proofs.Words.{is_word_byte, IsWord, EndsWord, clash, word_append, word_name, word_decimal, name_no_low_line, name_some, name_not_reserved}
use Rattle.cc_certificate_text.specs.LocalNames.{IsNamed, IsNamedElement, IsLocal}
use Rattle.cc_certificate_text.specs.Reading.{Locals, Printed, Counted, local_of, spelled_position, variable_by, variable_of, element_of, other_of, elements_of}
use Rattle.cc_certificate_text.proofs.Seen.{seen, seen_element, MayStand, written_number, written_low, local_of_gives, local_of-decimal, bound_text}

-- the words of names
abbrev pub word_of_name : List (List ℕ) → ℕ → List ℕ
word_of_name names position = encode_utf8_all (slice_index_or names position [])

position_map : (o : Option ℕ) (p : ℕ) → option_map suc o ≡ Some p → (q : ℕ) × (o ≡ Some q) × (p ≡ suc q)
position_map None p h = cc
position_map (Some q) p h = (q, refl, cc)

position_in : (test : Bool) (o : Option ℕ) (p : ℕ) (names : List (List ℕ)) (name word : List ℕ)
    → bytes_eq (encode_utf8_all name) word ≡ test
    → ((q : ℕ) → o ≡ Some q → (q < length names) × (word ≡ word_of_name names q))
    → cond test (Some zero) (option_map suc o) ≡ Some p
    → (p < length (name ∷ names)) × (word ≡ word_of_name (name ∷ names) p)
position_in true o p names name word e deeper h =
    let same = (bytes_eq-Decides (encode_utf8_all name) word).0 e in
    let first : zero ≡ p = cc in
    subst (λ q. (q < length (name ∷ names)) × (word ≡ word_of_name (name ∷ names) q)) first (omega arith, sym same)
position_in false o p names name word e deeper h =
    let found = position_map o p h in
    let rest = deeper found.0 found.1 in
    subst (λ q. (q < length (name ∷ names)) × (word ≡ word_of_name (name ∷ names) q)) (sym found.2) (omega (arith, rest.0), rest.1)

pub position_of_gives : (names : List (List ℕ)) (word : List ℕ) (p : ℕ) → spelled_position names word ≡ Some p
    → (p < length names) × (word ≡ word_of_name names p)
position_of_gives [] word p h = cc
position_of_gives (name ∷ names) word p h =
    position_in (bytes_eq (encode_utf8_all name) word) (spelled_position names word) p names name word refl
    (λ q e. position_of_gives names word q e) h

position_of-first : (names : List (List ℕ)) (p : ℕ) → p < length names
    → ((q : ℕ) → q < p → bytes_eq (word_of_name names q) (word_of_name names p) ≡ false)
    → spelled_position names (word_of_name names p) ≡ Some p
position_of-first [] p low apart = absurd (omega arith)
position_of-first (name ∷ names) zero low apart =
    rw ((bytes_eq-Decides (encode_utf8_all name) (encode_utf8_all name)).1 refl) refl
position_of-first (name ∷ names) (suc p) low apart =
    rw (apart 0 (omega arith), position_of-first names p (omega arith) (λ q h. apart (suc q) (omega arith))) refl

pub named_at : (names : List (List ℕ)) → AllByRecursion IsName names → (p : ℕ) → p < length names
    → IsName (slice_index_or names p [])
named_at [] all p low = absurd (omega arith)
named_at (name ∷ names) all zero low = all.0
named_at (name ∷ names) all (suc p) low = named_at names all.1 p (omega arith)

pub listed_text : (names : List (List ℕ)) (prefix : List ℕ) (p : ℕ) → p < length names
    → position_text names prefix p ≡ word_of_name names p
listed_text names prefix p low = rw ((Decides-ltb p (length names)).1 low) refl

pub seen_name : (names : List (List ℕ)) (depth : ℕ) (locals : Locals) (p : ℕ) → p < length names
    → variable_text names depth (codes "_") (seen locals (length names) (Free p)) ≡ word_of_name names p
seen_name names depth Printed p low = listed_text names (codes "_") p low
seen_name names depth Counted p low = listed_text names (codes "_") p low

pub false_unless : (b : Bool) → (b ≡ true → ⊥) → b ≡ false
false_unless true h = absurd (h refl)
false_unless false h = refl

none_unless : (bytes prefix : List ℕ) (o : Option (List ℕ)) → after_prefix bytes prefix ≡ o
    → ((rest : List ℕ) → bytes ≡ prefix ++ rest → ⊥) → o ≡ None
none_unless bytes prefix None e h = refl
none_unless bytes prefix (Some rest) e h = absurd (h rest (after_prefix_gives bytes prefix rest e))

-- nothing stands behind a prefix with which the bytes do not begin
pub no_prefix : (bytes prefix : List ℕ) → ((rest : List ℕ) → bytes ≡ prefix ++ rest → ⊥) → after_prefix bytes prefix ≡ None
no_prefix bytes prefix h = none_unless bytes prefix (after_prefix bytes prefix) refl h

cap_reserved : is_reserved (codes "cap") ≡ true
unfolding is_reserved reserved_words
cap_reserved = refl

-- a byte of no word stands in none
pub Lacks-word : (c : ℕ) (w : List ℕ) → is_word_byte c ≡ false → IsWord w → Lacks c w
Lacks-word c [] apart word = tt
Lacks-word c (b ∷ w) apart word = (
  false_unless (b == c) (λ t. clash (is_word_byte b) word.0 (ap is_word_byte ((Decides-eqb b c).0 t) ∙ apart)),
  Lacks-word c w apart word.1,
)

pub map_gives : {A B : Type 0} (f : A → B) (o : Option A) (y : B) → option_map f o ≡ Some y → (x : A) × (o ≡ Some x) × (y ≡ f x)
map_gives f None y h = cc
map_gives f (Some x) y h = (x, refl, cc)

module _ (names : List (List ℕ)) (all : AllByRecursion IsName names) (apart : IsDistinct bytes_eq names) where
  position_of-name : (p : ℕ) → p < length names → spelled_position names (word_of_name names p) ≡ Some p
  position_of-name p low =
      position_of-first names p low
      (λ q h. bytes_eq-encodes (slice_index_or names q []) (slice_index_or names p [])
      ∙ apart_from_distinct bytes_eq names q p [] apart h low)

  -- a word that is a variable, in the numbering
  module _ (locals : Locals) (depth : ℕ) where
    abbrev Named : Var → Type 0
    Named v = IsNamed (MayStand locals depth) (length names) v

    abbrev text : Var → List ℕ
    text v = variable_text names depth (codes "_") (seen locals (length names) v)

    variable_in : (word : List ℕ) (v : Var) (o : Option (List ℕ)) (p : Option ℕ) → after_prefix word (codes "_") ≡ o
        → spelled_position names word ≡ p → variable_by locals depth o p ≡ Some v → Named v × (word ≡ text v)
    variable_in word v (Some digits) p e position h =
        let found = local_of_gives locals depth digits v h in
        subst (λ x. Named x × (word ≡ text x)) (sym found.1) (
          found.2,
          after_prefix_gives word (codes "_") digits e ∙ ap (λ z. 95 ∷ z) found.3
              ∙ sym (bound_text locals names depth (codes "_") found.0),
        )
    variable_in word v None None e position h = cc
    variable_in word v None (Some p) e position h =
        let found = position_of_gives names word p position in
        let is : Free p ≡ v = cc in
        subst (λ x. Named x × (word ≡ text x)) is (found.0, found.1 ∙ sym (seen_name names depth locals p found.0))

    pub variable_of_gives : (word : List ℕ) (v : Var) → variable_of locals names depth word ≡ Some v → Named v × (word ≡ text v)
    unfolding variable_of
    variable_of_gives word v h = variable_in word v (after_prefix word (codes "_")) (spelled_position names word) refl refl h

    pub variable_word : (v : Var) → Named v → IsWord (text v)
    variable_word (Bound i) h =
        subst IsWord (sym (bound_text locals names depth (codes "_") i))
        (word_append (codes "_") (decimal (written_number locals depth i)) (refl, tt)
        (word_decimal (written_number locals depth i) (let low = written_low locals depth i h in omega (arith, low))))
    variable_word (Free p) h =
        subst IsWord (sym (seen_name names depth locals p h)) (word_name (slice_index_or names p []) (named_at names all p h))

    pub variable_of-text : (v : Var) → Named v → variable_of locals names depth (text v) ≡ Some v
    unfolding variable_of
    variable_of-text (Bound i) h =
        let digits = decimal (written_number locals depth i) in
        subst (λ w. variable_by locals depth (after_prefix w (codes "_")) (spelled_position names w) ≡ Some (Bound i))
        (sym (bound_text locals names depth (codes "_") i))
        (ap (λ o. variable_by locals depth o (spelled_position names (codes "_" ++ digits))) (after_prefix-append (codes "_") digits)
        ∙ local_of-decimal locals depth i h)
    variable_of-text (Free p) h =
        let named = named_at names all p h in
        subst (λ w. variable_by locals depth (after_prefix w (codes "_")) (spelled_position names w) ≡ Some (Free p))
        (sym (seen_name names depth locals p h))
        (rw (
          no_prefix (word_of_name names p) (codes "_") (λ rest e. name_no_low_line (slice_index_or names p []) rest named e),
          position_of-name p h,
        ) refl)

    pub not_cap : (v : Var) → Named v → text v ≡ codes "cap" → ⊥
    not_cap (Bound i) h e = ends_differ 95 99 _ _ refl (sym (bound_text locals names depth (codes "_") i) ∙ e)
    not_cap (Free p) h e =
        let named = named_at names all p h in
        clash (is_reserved (codes "cap")) cap_reserved
        (sym (ap is_reserved (sym (seen_name names depth locals p h) ∙ e)) ∙ name_not_reserved (slice_index_or names p []) named)

    abbrev pub NamedElement : Elem → Type 0
    NamedElement e = IsNamedElement (MayStand locals depth) (length names) e

    abbrev pub etext : Elem → List ℕ
    etext e = element_text names depth (seen_element locals (length names) e)

    element_in : (word : List ℕ) (e : Elem) (test : Bool) (o : Option Var) → bytes_eq word (codes "cap") ≡ test
        → variable_of locals names depth word ≡ o → cond test (Some Cap) (option_map Variable o) ≡ Some e
        → NamedElement e × (word ≡ etext e)
    element_in word e true o t found h =
        let is : Cap ≡ e = cc in
        subst (λ x. NamedElement x × (word ≡ etext x)) is (tt, (bytes_eq-Decides word (codes "cap")).0 t)
    element_in word e false o t found h =
        let variable = map_gives Variable o e h in
        let given = variable_of_gives word variable.0 (found ∙ variable.1) in
        subst (λ x. NamedElement x × (word ≡ etext x)) (sym variable.2) given

    pub element_of_gives : (word : List ℕ) (e : Elem) → element_of locals names depth word ≡ Some e
        → NamedElement e × (word ≡ etext e)
    unfolding element_of
    element_of_gives word e h =
        element_in word e (bytes_eq word (codes "cap")) (variable_of locals names depth word) refl refl h

    pub element_of-text : (e : Elem) → NamedElement e → element_of locals names depth (etext e) ≡ Some e
    unfolding element_of
    element_of-text (Variable v) h =
        let other = false_unless (bytes_eq (text v) (codes "cap")) (λ t. not_cap v h ((bytes_eq-Decides (text v) (codes "cap")).0 t)) in
        rw (other, variable_of-text v h) refl
    element_of-text Cap h = refl
    element_of-text (Hole hole) h = absurd h

    pub element_word : (e : Elem) → NamedElement e → IsWord (etext e)
    element_word (Variable v) h = variable_word v h
    element_word Cap h = (refl, (refl, (refl, tt)))
    element_word (Hole hole) h = absurd h

    pub element_some : (e : Elem) → NamedElement e → etext e ≡ [] → ⊥
    element_some (Variable (Bound i)) h e = let clash = sym (bound_text locals names depth (codes "_") i) ∙ e in cc
    element_some (Variable (Free p)) h e =
        name_some (slice_index_or names p []) (named_at names all p h) (sym (seen_name names depth locals p h) ∙ e)
    element_some Cap h e = cc
    element_some (Hole hole) h e = h

    abbrev pub otext : Elem → List ℕ
    otext e = 32 ∷ etext e

    other_of_gives : (word : List ℕ) (e : Elem) → other_of locals names depth word ≡ Some e → NamedElement e × (word ≡ otext e)
    unfolding other_of
    other_of_gives word e h =
        let step = some_from_bind (after_prefix word (codes " ")) (element_of locals names depth) e h in
        let found = element_of_gives step.0 e step.2 in
        (found.0, after_prefix_gives word (codes " ") step.0 step.1 ∙ ap (λ z. 32 ∷ z) found.1)

    other_of-text : (e : Elem) → NamedElement e → other_of locals names depth (otext e) ≡ Some e
    unfolding other_of
    other_of-text e h = element_of-text e h

    -- the words of the elements
    abbrev pub words_of : Elem → List Elem → List (List ℕ)
    words_of first others = etext first ∷ map otext others

    first_and_rest_gives : (words : List (List ℕ)) (cut : List ℕ × List (List ℕ)) → first_and_rest words ≡ Some cut
        → words ≡ cut.0 ∷ cut.1
    first_and_rest_gives [] cut h = cc
    first_and_rest_gives (word ∷ words) cut h = let same : (word, words) ≡ cut = cc in ap (λ c. c.0 ∷ c.1) same

    pub elements_of_gives : (words : List (List ℕ)) (es : List Elem) → elements_of locals names depth words ≡ Some es
        → (first : Elem) × (others : List Elem) × (es ≡ first ∷ others) × AllByRecursion NamedElement (first ∷ others)
        × (words ≡ words_of first others)
    unfolding elements_of
    elements_of_gives words es h =
        let cut = some_from_bind (first_and_rest words)
        (λ cut. element_of locals names depth cut.0 >>= λ first. option_map (λ others. first ∷ others) (all_of (other_of locals names depth) cut.1)) es h in
        let first = some_from_bind (element_of locals names depth cut.0.0)
        (λ first. option_map (λ others. first ∷ others) (all_of (other_of locals names depth) cut.0.1)) es cut.2 in
        let others = map_gives (λ others. first.0 ∷ others) (all_of (other_of locals names depth) cut.0.1) es first.2 in
        let one = element_of_gives cut.0.0 first.0 first.1 in
        let more = all_of_gives (other_of locals names depth) NamedElement otext other_of_gives cut.0.1 others.0 others.1 in (
          first.0,
          others.0,
          others.2,
          (one.0, more.0),
          first_and_rest_gives words cut.0 cut.1 ∙ (λ i. one.1 i ∷ more.1 i),
        )

    pub elements_of-words : (first : Elem) (others : List Elem) → AllByRecursion NamedElement (first ∷ others)
        → elements_of locals names depth (words_of first others) ≡ Some (first ∷ others)
    unfolding elements_of
    elements_of-words first others h =
        rw (element_of-text first h.0, all_of-map (other_of locals names depth) NamedElement otext other_of-text others h.1) refl

    -- the words joined by commas
    commas : (others : List Elem)
        → flat_map (λ w. 44 ∷ w) (map otext others) ≡ others_text names depth (map (seen_element locals (length names)) others)
    commas [] = refl
    commas (e ∷ es) = ap (λ z. (44 ∷ otext e) ++ z) (commas es)

    pub joined_words : (first : Elem) (others : List Elem)
        → joined 44 (words_of first others) ≡ elements_text names depth (map (seen_element locals (length names)) (first ∷ others))
    joined_words first others = ap (λ z. etext first ++ z) (commas others)

    word_lacks : (c : ℕ) (first : Elem) (others : List Elem) → is_word_byte c ≡ false → (32 == c) ≡ false
        → AllByRecursion NamedElement (first ∷ others) → AllLack c (words_of first others)
    word_lacks c first others apart space h =
        (Lacks-word c (etext first) apart (element_word first h.0), others_lack others h.1)
      where
        others_lack : (es : List Elem) → AllByRecursion NamedElement es → AllLack c (map otext es)
        others_lack [] h = tt
        others_lack (e ∷ es) h = ((space, Lacks-word c (etext e) apart (element_word e h.0)), others_lack es h.1)

    -- the text of elements is cut into their words
    pub split_words : (first : Elem) (others : List Elem) → AllByRecursion NamedElement (first ∷ others)
        → split_at 44 (elements_text names depth (map (seen_element locals (length names)) (first ∷ others))) ≡ words_of first others
    split_words first others h =
        ap (split_at 44) (sym (joined_words first others))
        ∙ split_at-joined 44 (etext first) (map otext others) (word_lacks 44 first others refl refl h)

    -- no closing brace stands in it
    pub no_brace : (first : Elem) (others : List Elem) → AllByRecursion NamedElement (first ∷ others)
        → Lacks 125 (elements_text names depth (map (seen_element locals (length names)) (first ∷ others)))
    no_brace first others h =
        subst (Lacks 125) (joined_words first others)
        (Lacks-joined 44 125 (words_of first others) refl (word_lacks 125 first others refl refl h))
