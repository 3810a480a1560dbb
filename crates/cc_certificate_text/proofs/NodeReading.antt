-- What is read as the node of a derivation.
use Rattle.std.proofs.Common.{◌≡◌, ℕ, zero, suc, ◌+◌, ◌-◌, ◌^◌, ◌<◌, ◌≤◌, Bool, true, false, ◌&&◌, ◌||◌, ◌==◌, cond, List, [], ◌∷◌, ◌++◌, map, take, drop, Option, Some, None, length, decimal, codes, bytes_eq, refl, sym, ap, subst, ◌∙◌, arith, append_assoc, ◌⊎◌, inl, inr, ⊎_elim}
use Rattle.std.specs.Prelude.{is_some, nat_le, nat_lt, max}
use Rattle.std.specs.List.{AllByRecursion, IsDistinct, flat_map}
use Rattle.std.proofs.lemmas.Bool.{and_parts, and_from}
use Rattle.std.proofs.lemmas.Bool.Decides.{Decides-ltb, nat_tests}
use Rattle.std.proofs.lemmas.List.{take-append-drop, drop_at, length-append}
use Rattle.std.proofs.lemmas.Fmt.{decimal_nonempty}
use Rattle.std.proofs.lemmas.Slice.Eq.{bytes_eq-Decides}
use Rattle.cc_base.specs.Names.{IsName}
use Rattle.cc_capture.specs.Sets.{Set, empty, image}
use Rattle.cc_core.specs.Shapes.{Shape, CapturingType}
use Rattle.cc_core.specs.Derivations.{Rule, ByElement, ByVariable, BySet, ByReflexivity, ByTransitivity, ByTypeVariable, ByTop, ByFunction, ByTypeFunction, ByBox, ByCapturing, t-var, t-lit, t-abs, t-tabs, t-app, t-tapp, t-box, t-unbox, t-let, t-prim, t-if, t-repeat, t-op, t-boundary, t-exit, t-sub, Claim, SetBelow, ShapeBelow, TypeBelow, OfType}
use Rattle.cc_words.specs.Words.{joined, after_prefix, cut_at, split_at, all_of, number_of}
use Rattle.cc_words.proofs.Steps.{cut_at_gives, cut_at-append, Lacks}
use Rattle.cc_words.proofs.Numbers.{number_of_gives, number_of-decimal, all_of_gives, all_of-map, AllLack-map}
use Rattle.cc_words.proofs.Splits.{Lacks-test, AllLack, joined-split_at, split_at-joined, Lacks-joined}
use Rattle.cc_print.specs.TypeTexts.{set_under, elements_text}
use Rattle.cc_print.proofs.Words.{IsWord, EndsWord, word_decimal, is_word_byte}
use Rattle.cc_certificate_text.specs.NodeTexts.{rule_text, claim_text, other_numbers, numbers_text, node_line}
use Rattle.cc_certificate_text.specs.Heights.{shape_height}
use Rattle.cc_certificate_text.specs.LocalNames.{placed_claim, IsNamedClaim, has_binder, claim_has_binder}
use Rattle.cc_certificate_text.specs.Certificates.{CertificateNode, Line, Concludes, ClaimKind, OfSets, OfShapes, OfTypes, OfTerms, claim_kind, rule_kind, claim_height, binder_number, IsNextNode}
use Rattle.cc_certificate_text.specs.Reading.{Found, Got, Wrong, Reader, ◌>>=◌, found_of, where_true, begun, Printed, exact_at, same_number_at, some_set_at, set_at, shape_at, type_at}
use Rattle.cc_certificate_text.specs.LineReading.{first_at, value_of, NumberedClaim, numbered_claim, set_claim_at, type_has_binder, below_at, typing_claim_at, claim_at, rule_among, all_rules, rule_of, rule_of_cut, rule_at, some_numbers, numbers_of, numbers_of_cut, numbers_at, ends_with, conclusion_at, numbered_node_at, node_at}
use Rattle.cc_certificate_text.proofs.Readers.{got_from_bind, got_from_option, got_from_test, got_parts, begun_gives, begun-text, begun-none, exact_at_gives, exact_at-text, same_number_at_gives, same_number_at-decimal}
use Rattle.cc_certificate_text.proofs.ReadSets.{no_prefix, Lacks-word}
use Rattle.cc_certificate_text.proofs.ReadTypes.{ends_word, NamedSet, NamedShape, written_set, elements_written, stext, ttext, EndsType, some_set_at_gives, some_set_at-text, some_or_empty, written_empty, HasElements, set_no_close}
use Rattle.cc_certificate_text.proofs.ReadShapes.{three_texts, GoodShape, GoodType, shape_at_gives, shape_at-text, type_at_gives, type_at-text}
use Rattle.cc_certificate_text.proofs.ClaimReading.{first_number, shape_first, whole_type_first, shape_moved, type_moved, named_moved, number_is, numbered_claim_gives, numbered_claim-holds, Sides, below_gives, below-text}
use Rattle.cc_certificate_text.proofs.TermRules.{seven_texts}

-- RULES

rule_in : (rules : List Rule) (word : List ℕ) (rule r : Rule) (test : Bool) → bytes_eq word (rule_text r) ≡ test
    → (rule_among rules word ≡ Some rule → word ≡ rule_text rule)
    → cond test (Some r) (rule_among rules word) ≡ Some rule → word ≡ rule_text rule
rule_in rules word rule r true e deeper h = let same : r ≡ rule = cc in (bytes_eq-Decides word (rule_text r)).0 e ∙ ap rule_text same
rule_in rules word rule r false e deeper h = deeper h

rule_among_gives : (rules : List Rule) (word : List ℕ) (rule : Rule) → rule_among rules word ≡ Some rule → word ≡ rule_text rule
rule_among_gives [] word rule h = cc
rule_among_gives (r ∷ rules) word rule h = rule_in rules word rule r (bytes_eq word (rule_text r)) refl (rule_among_gives rules word rule) h

rule_of-text : (rule : Rule) → rule_of (rule_text rule) ≡ Some rule
unfolding rule_of
rule_of-text ByElement = refl
rule_of-text ByVariable = refl
rule_of-text BySet = refl
rule_of-text ByReflexivity = refl
rule_of-text ByTransitivity = refl
rule_of-text ByTypeVariable = refl
rule_of-text ByTop = refl
rule_of-text ByFunction = refl
rule_of-text ByTypeFunction = refl
rule_of-text ByBox = refl
rule_of-text ByCapturing = refl
rule_of-text t-var = refl
rule_of-text t-lit = refl
rule_of-text t-abs = refl
rule_of-text t-tabs = refl
rule_of-text t-app = refl
rule_of-text t-tapp = refl
rule_of-text t-box = refl
rule_of-text t-unbox = refl
rule_of-text t-let = refl
rule_of-text t-prim = refl
rule_of-text t-if = refl
rule_of-text t-repeat = refl
rule_of-text t-op = refl
rule_of-text t-boundary = refl
rule_of-text t-exit = refl
rule_of-text t-sub = refl

rule_lacks : (rule : Rule) → Lacks 32 (rule_text rule)
rule_lacks ByElement = Lacks-test 32 (rule_text ByElement) refl
rule_lacks ByVariable = Lacks-test 32 (rule_text ByVariable) refl
rule_lacks BySet = Lacks-test 32 (rule_text BySet) refl
rule_lacks ByReflexivity = Lacks-test 32 (rule_text ByReflexivity) refl
rule_lacks ByTransitivity = Lacks-test 32 (rule_text ByTransitivity) refl
rule_lacks ByTypeVariable = Lacks-test 32 (rule_text ByTypeVariable) refl
rule_lacks ByTop = Lacks-test 32 (rule_text ByTop) refl
rule_lacks ByFunction = Lacks-test 32 (rule_text ByFunction) refl
rule_lacks ByTypeFunction = Lacks-test 32 (rule_text ByTypeFunction) refl
rule_lacks ByBox = Lacks-test 32 (rule_text ByBox) refl
rule_lacks ByCapturing = Lacks-test 32 (rule_text ByCapturing) refl
rule_lacks t-var = Lacks-test 32 (rule_text t-var) refl
rule_lacks t-lit = Lacks-test 32 (rule_text t-lit) refl
rule_lacks t-abs = Lacks-test 32 (rule_text t-abs) refl
rule_lacks t-tabs = Lacks-test 32 (rule_text t-tabs) refl
rule_lacks t-app = Lacks-test 32 (rule_text t-app) refl
rule_lacks t-tapp = Lacks-test 32 (rule_text t-tapp) refl
rule_lacks t-box = Lacks-test 32 (rule_text t-box) refl
rule_lacks t-unbox = Lacks-test 32 (rule_text t-unbox) refl
rule_lacks t-let = Lacks-test 32 (rule_text t-let) refl
rule_lacks t-prim = Lacks-test 32 (rule_text t-prim) refl
rule_lacks t-if = Lacks-test 32 (rule_text t-if) refl
rule_lacks t-repeat = Lacks-test 32 (rule_text t-repeat) refl
rule_lacks t-op = Lacks-test 32 (rule_text t-op) refl
rule_lacks t-boundary = Lacks-test 32 (rule_text t-boundary) refl
rule_lacks t-exit = Lacks-test 32 (rule_text t-exit) refl
rule_lacks t-sub = Lacks-test 32 (rule_text t-sub) refl

rule_cut_gives : (bytes : List ℕ) (rule : Rule) (rest : List ℕ) (o : Option (List ℕ × List ℕ)) → cut_at 32 bytes ≡ o
    → rule_of_cut o ≡ Got rule rest → bytes ≡ rule_text rule ++ 32 ∷ rest
unfolding rule_of
rule_cut_gives bytes rule rest None e h = cc
rule_cut_gives bytes rule rest (Some cut) e h =
    let found = got_from_option (rule_of cut.0) cut.1 rule rest h in
    let word = rule_among_gives all_rules cut.0 rule found.0 in
    cut_at_gives 32 bytes cut.0 cut.1 e ∙ (λ i. word i ++ 32 ∷ found.1 i)

pub rule_at_gives : (bytes : List ℕ) (rule : Rule) (rest : List ℕ) → rule_at bytes ≡ Got rule rest → bytes ≡ rule_text rule ++ 32 ∷ rest
unfolding rule_at
rule_at_gives bytes rule rest h = rule_cut_gives bytes rule rest (cut_at 32 bytes) refl h

pub rule_at-text : (rule : Rule) (rest : List ℕ) → rule_at (rule_text rule ++ 32 ∷ rest) ≡ Got rule rest
unfolding rule_at
rule_at-text rule rest = rw (cut_at-append 32 (rule_text rule) rest (rule_lacks rule), rule_of-text rule) refl

-- NUMBERS OF PREMISES

abbrev pub IsLow : ℕ → Type 0
IsLow n = n ≤ 4294967295

number_sound : (word : List ℕ) (n : ℕ) → number_of 4294967295 word ≡ Some n → IsLow n × (word ≡ decimal n)
number_sound word n h = number_of_gives 4294967295 word n (omega arith) h

number_complete : (n : ℕ) → IsLow n → number_of 4294967295 (decimal n) ≡ Some n
number_complete n low = number_of-decimal 4294967295 n (omega arith) low

spaces : (others : List ℕ) → flat_map (λ w. 32 ∷ w) (map decimal others) ≡ other_numbers others
spaces [] = refl
spaces (n ∷ ns) = ap (λ z. (32 ∷ decimal n) ++ z) (spaces ns)

numbers_joined : (ns : List ℕ) → joined 32 (map decimal ns) ≡ numbers_text ns
numbers_joined [] = refl
numbers_joined (n ∷ ns) = ap (λ z. decimal n ++ z) (spaces ns)

some_numbers_give : (content ns : List ℕ) → some_numbers content ≡ Some ns → AllByRecursion IsLow ns × (content ≡ numbers_text ns)
some_numbers_give [] ns h = let same : [] ≡ ns = cc in subst (λ z. AllByRecursion IsLow z × ([] ≡ numbers_text z)) same (tt, refl)
some_numbers_give (b ∷ bs) ns h =
    let found = all_of_gives (number_of 4294967295) IsLow decimal number_sound (split_at 32 (b ∷ bs)) ns h in
    (found.0, sym (joined-split_at 32 (b ∷ bs)) ∙ (ap (joined 32) found.1 ∙ numbers_joined ns))

some_numbers_split : (content : List ℕ) → (content ≡ [] → ⊥) → some_numbers content ≡ all_of (number_of 4294967295) (split_at 32 content)
some_numbers_split [] some = absurd (some refl)
some_numbers_split (b ∷ bs) some = refl

decimals_lack : (c : ℕ) → is_word_byte c ≡ false → (n : ℕ) → IsLow n → Lacks c (decimal n)
decimals_lack c apart n low = Lacks-word c (decimal n) apart (word_decimal n (omega (arith, low)))

decimal_some : (n : ℕ) (rest : List ℕ) → n < 2 ^ 64 → decimal n ++ rest ≡ [] → ⊥
decimal_some n rest small e = none (decimal n) (decimal_nonempty n small) e
  where
    none : (ds : List ℕ) → 0 < length ds → ds ++ rest ≡ [] → ⊥
    none [] some e = omega arith
    none (d ∷ ds) some e = cc

numbers_of-text : (ns : List ℕ) → AllByRecursion IsLow ns → numbers_of (numbers_text ns) ≡ Some ns
unfolding numbers_of
numbers_of-text [] low = refl
numbers_of-text (n ∷ ns) low =
    let words = ap (split_at 32) (sym (numbers_joined (n ∷ ns)))
    ∙ split_at-joined 32 (decimal n) (map decimal ns) (AllLack-map (number_of 4294967295) IsLow decimal 32 (decimals_lack 32 refl) (n ∷ ns) low) in
    some_numbers_split (numbers_text (n ∷ ns)) (decimal_some n (other_numbers ns) (let h = low.0 in omega (arith, h)))
    ∙ (ap (all_of (number_of 4294967295)) words ∙ all_of-map (number_of 4294967295) IsLow decimal number_complete (n ∷ ns) low)

numbers_lack : (ns : List ℕ) → AllByRecursion IsLow ns → Lacks 93 (numbers_text ns)
numbers_lack ns low =
    subst (Lacks 93) (numbers_joined ns)
    (Lacks-joined 32 93 (map decimal ns) refl (AllLack-map (number_of 4294967295) IsLow decimal 93 (decimals_lack 93 refl) ns low))

numbers_cut_give : (bytes ns rest : List ℕ) (o : Option (List ℕ × List ℕ)) → cut_at 93 bytes ≡ o → numbers_of_cut o ≡ Got ns rest
    → bytes ≡ numbers_text ns ++ 93 ∷ rest
unfolding numbers_of
numbers_cut_give bytes ns rest None e h = cc
numbers_cut_give bytes ns rest (Some cut) e h =
    let found = got_from_option (numbers_of cut.0) cut.1 ns rest h in
    let given = some_numbers_give cut.0 ns found.0 in
    cut_at_gives 93 bytes cut.0 cut.1 e ∙ (λ i. given.1 i ++ 93 ∷ found.1 i)

pub numbers_at_give : (bytes ns rest : List ℕ) → numbers_at bytes ≡ Got ns rest → bytes ≡ numbers_text ns ++ 93 ∷ rest
unfolding numbers_at
numbers_at_give bytes ns rest h = numbers_cut_give bytes ns rest (cut_at 93 bytes) refl h

pub numbers_at-text : (ns rest : List ℕ) → AllByRecursion IsLow ns → numbers_at (numbers_text ns ++ 93 ∷ rest) ≡ Got ns rest
unfolding numbers_at
numbers_at-text ns rest low = rw (cut_at-append 93 (numbers_text ns) rest (numbers_lack ns low), numbers_of-text ns low) refl

-- THE LAST UNUSED NODES

pub ends_with_gives : (unused last : List ℕ) → ends_with unused last ≡ true → (kept : List ℕ) × (unused ≡ kept ++ last)
unfolding ends_with
ends_with_gives unused last h =
    let parts = and_parts (nat_le (length last) (length unused)) (bytes_eq (drop (length unused - length last) unused) last) h in
    let same = (bytes_eq-Decides (drop (length unused - length last) unused) last).0 parts.1 in (
      take (length unused - length last) unused,
      sym (take-append-drop (length unused - length last) unused) ∙ ap (λ z. take (length unused - length last) unused ++ z) same,
    )

pub ends_with-holds : (kept last : List ℕ) → ends_with (kept ++ last) last ≡ true
unfolding ends_with
ends_with-holds kept last =
    let long : length (kept ++ last) ≡ length kept + length last = length-append kept last in
    let less : nat_le (length last) (length (kept ++ last)) ≡ true = grind (arith, nat_tests, long) in
    let rest = drop_at kept last (length (kept ++ last) - length last) (omega (arith, long)) in
    and_from _ _ less ((bytes_eq-Decides (drop (length (kept ++ last) - length last) (kept ++ last)) last).1 rest)

all_last : (P : ℕ → Type 0) (kept last : List ℕ) → AllByRecursion P (kept ++ last) → AllByRecursion P last
all_last P [] last h = h
all_last P (k ∷ kept) last h = all_last P kept last h.1

-- CLAIMS

module _ (names : List (List ℕ)) (all : AllByRecursion IsName names) (apart : IsDistinct bytes_eq names) where
  abbrev E : Set → List ℕ
  E set = elements_written names all apart Printed 0 set

  empty_named : NamedSet names all apart Printed 0 empty
  unfolding empty
  empty_named = tt

  set_none : (rest : List ℕ) → begun (after_prefix (E empty ++ 125 ∷ rest) (codes "}")) (λ r. Got empty r)
      (some_set_at Printed names 0 (E empty ++ 125 ∷ rest)) ≡ Got empty rest
  set_none rest =
      subst (λ l. begun (after_prefix (elements_text names 0 l ++ 125 ∷ rest) (codes "}")) (λ r. Got empty r)
      (some_set_at Printed names 0 (elements_text names 0 l ++ 125 ∷ rest)) ≡ Got empty rest) (sym (written_empty names all apart Printed))
      (begun-text (codes "}") rest (λ r. Got empty r) (some_set_at Printed names 0 (125 ∷ rest)))

  printed_set_gives : (bytes : List ℕ) (set : Set) (rest : List ℕ) → set_at Printed names 0 bytes ≡ Got set rest
      → NamedSet names all apart Printed 0 set × (bytes ≡ E set ++ 125 ∷ rest)
  unfolding set_at
  printed_set_gives bytes set rest h =
      begun_gives bytes (codes "}") (λ r. Got empty r) (some_set_at Printed names 0 bytes) set rest
      (NamedSet names all apart Printed 0 set × (bytes ≡ E set ++ 125 ∷ rest))
      (λ r e k. (let same = got_parts empty set r rest k in
      subst (λ s. NamedSet names all apart Printed 0 s × (bytes ≡ E s ++ 125 ∷ rest)) same.0
      (empty_named, e ∙ (ap (λ z. 125 ∷ z) same.1 ∙ sym (ap (λ l. elements_text names 0 l ++ 125 ∷ rest) (written_empty names all apart Printed))))))
      (λ k. (let given = some_set_at_gives names all apart Printed 0 bytes set rest k in (given.0, given.2))) h

  no_close : (set : Set) (rest : List ℕ) → NamedSet names all apart Printed 0 set → HasElements names all apart Printed set
      → after_prefix (E set ++ 125 ∷ rest) (codes "}") ≡ None
  no_close set rest ok some = set_no_close names all apart Printed 0 set rest ok some

  printed_set-text : (set : Set) (rest : List ℕ) → NamedSet names all apart Printed 0 set
      → set_at Printed names 0 (E set ++ 125 ∷ rest) ≡ Got set rest
  unfolding set_at
  printed_set-text set rest ok =
      ⊎_elim
      (λ some. begun-none (after_prefix (E set ++ 125 ∷ rest) (codes "}")) (λ r. Got empty r) (some_set_at Printed names 0 (E set ++ 125 ∷ rest))
      (no_close set rest ok some) ∙ some_set_at-text names all apart Printed 0 set rest ok some)
      (λ none. subst (λ s. begun (after_prefix (E s ++ 125 ∷ rest) (codes "}")) (λ r. Got empty r) (some_set_at Printed names 0 (E s ++ 125 ∷ rest)) ≡ Got s rest)
      none (set_none rest))
      (some_or_empty names all apart Printed 0 set ok)

  -- a claim with the number of its binders
  pub record GoodClaim (kind : ClaimKind) (first : Option ℕ) (claim : Claim) : Type 0 where
    pub kind_is : kind ≡ claim_kind claim
    pub named : IsNamedClaim (length names) (binder_number first) claim
    pub binders : claim_has_binder claim ≡ is_some first
    pub low : claim_height claim ≤ 5000

  abbrev pub ctext : Option ℕ → Claim → List ℕ
  ctext first claim = claim_text names (binder_number first) (placed_claim (length names) claim)

  sets_text : (left right rest : List ℕ)
      → ((((codes "{" ++ left) ++ codes "}") ++ codes " <: ") ++ ((codes "{" ++ right) ++ codes "}")) ++ rest
      ≡ codes "{" ++ (left ++ 125 ∷ (codes " <: {" ++ (right ++ 125 ∷ rest)))
  sets_text left right rest =
      append_assoc (((codes "{" ++ left) ++ codes "}") ++ codes " <: ") ((codes "{" ++ right) ++ codes "}") rest
      ∙ (append_assoc ((codes "{" ++ left) ++ codes "}") (codes " <: ") (((codes "{" ++ right) ++ codes "}") ++ rest)
      ∙ ap (λ z. 123 ∷ z) (append_assoc left (codes "}") (codes " <: " ++ (((codes "{" ++ right) ++ codes "}") ++ rest))
      ∙ ap (λ z. left ++ 125 ∷ (codes " <: {" ++ z)) (append_assoc right (codes "}") rest)))

  abbrev GS : ℕ → Shape → Type 0
  GS depth shape = GoodShape names all apart Printed 5000 depth shape

  abbrev GT : ℕ → CapturingType → Type 0
  GT depth type = GoodType names all apart Printed 5000 depth type

  abbrev SS : ℕ → Shape → List ℕ
  SS depth shape = stext names all apart Printed depth shape

  abbrev TT : ℕ → CapturingType → List ℕ
  TT depth type = ttext names all apart Printed depth type

  abbrev Ends : List ℕ → Type 0
  Ends rest = EndsType names all apart Printed rest

  shape_complete : (depth : ℕ) (x : Shape) (rest : List ℕ) → GS depth x → Ends rest → shape_at Printed names 5000 depth (SS depth x ++ rest) ≡ Got x rest
  shape_complete depth x rest good ends =
      shape_at-text names all apart Printed 5000 depth x rest good (ends_word names all apart Printed rest ends, λ _. ends)

  shape_is_first : (depth : ℕ) (x : Shape) (rest : List ℕ) → GS depth x → value_of (first_at 5000 (SS depth x ++ rest)) ≡ first_number (has_binder x) depth
  shape_is_first depth x rest good = shape_first names all apart 5000 depth x rest good.0 good.1

  shape_is_moved : (depth depth' : ℕ) (x : Shape) → has_binder x ≡ false → GS depth x → GS depth' x
  shape_is_moved depth depth' x none good = (named_moved names all apart depth depth' x none good.0, good.1)

  type_is_first : (depth : ℕ) (x : CapturingType) (rest : List ℕ) → GT depth x → value_of (first_at 5000 (TT depth x ++ rest)) ≡ first_number (type_has_binder x) depth
  type_is_first depth x rest good = whole_type_first names all apart 5000 depth x rest good.0.0 good.1 good.0.1

  type_is_moved : (depth depth' : ℕ) (x : CapturingType) → type_has_binder x ≡ false → GT depth x → GT depth' x
  type_is_moved depth depth' x none good = ((named_moved names all apart depth depth' x.shape none good.0.0, good.0.1), good.1)

  abbrev ShapeSides : Option ℕ → Shape → Shape → List ℕ → List ℕ → Type 0
  ShapeSides = Sides (shape_at Printed names 5000) has_binder ShapeBelow GS SS Ends (shape_at_gives names all apart Printed 5000) shape_complete
      shape_is_first shape_is_moved (shape_moved names all apart) (λ rest. (refl, refl))

  abbrev TypeSides : Option ℕ → CapturingType → CapturingType → List ℕ → List ℕ → Type 0
  TypeSides = Sides (type_at Printed names 5000) type_has_binder TypeBelow GT TT Ends (type_at_gives names all apart Printed 5000) (type_at-text names all apart Printed 5000)
      type_is_first type_is_moved (type_moved names all apart) (λ rest. (refl, refl))

  abbrev Read : ClaimKind → List ℕ → NumberedClaim → List ℕ → Type 0
  Read kind bytes x rest = GoodClaim kind x.0 x.1 × (bytes ≡ ctext x.0 x.1 ++ rest)

  set_claim_gives : (bytes : List ℕ) (x : NumberedClaim) (rest : List ℕ) → set_claim_at names bytes ≡ Got x rest → Read OfSets bytes x rest
  unfolding set_claim_at
  set_claim_gives bytes x rest h =
      let opening = got_from_bind (exact_at (codes "{") bytes) (λ o r. set_at Printed names 0 r >>= λ left r.
      exact_at (codes " <: {") r >>= λ below r. set_at Printed names 0 r >>= λ right r. Got (None, SetBelow left right) r) x rest h in
      let left = got_from_bind (set_at Printed names 0 opening.1) (λ left r.
      exact_at (codes " <: {") r >>= λ below r. set_at Printed names 0 r >>= λ right r. Got (None, SetBelow left right) r) x rest opening.3 in
      let below = got_from_bind (exact_at (codes " <: {") left.1) (λ below r. set_at Printed names 0 r >>= λ right r. Got (None, SetBelow left.0 right) r) x rest left.3 in
      let right = got_from_bind (set_at Printed names 0 below.1) (λ right r. Got (None, SetBelow left.0 right) r) x rest below.3 in
      let same = got_parts (None, SetBelow left.0 right.0) x right.1 rest right.3 in
      let one = printed_set_gives opening.1 left.0 left.1 left.2 in
      let two = printed_set_gives below.1 right.0 right.1 right.2 in
      subst (λ y. Read OfSets bytes y rest) same.0 (
        record { kind_is = refl; named = (one.0, two.0); binders = refl; low = omega arith },
        exact_at_gives (codes "{") bytes opening.1 opening.0 opening.2 ∙ (ap (λ z. 123 ∷ z) (one.1
            ∙ ap (λ z. E left.0 ++ 125 ∷ z) (exact_at_gives (codes " <: {") left.1 below.1 below.0 below.2
            ∙ ap (λ z. codes " <: {" ++ z) (two.1 ∙ ap (λ z. E right.0 ++ 125 ∷ z) same.1)))
            ∙ sym (sets_text (E left.0) (E right.0) rest)),
      )

  shape_claim_gives : (bytes : List ℕ) (x : NumberedClaim) (rest : List ℕ)
      → below_at (shape_at Printed names 5000) has_binder ShapeBelow bytes ≡ Got x rest → Read OfShapes bytes x rest
  shape_claim_gives bytes x rest h =
      let given = below_gives (shape_at Printed names 5000) has_binder ShapeBelow GS SS Ends (shape_at_gives names all apart Printed 5000) shape_complete
      shape_is_first shape_is_moved (shape_moved names all apart) (λ rest. (refl, refl)) bytes x rest h in
      let sides = given.4 in
      subst (λ y. Read OfShapes bytes y rest) given.3 (
        record {
          kind_is = refl;
          named = (sides.good_left.0, sides.good_right.0);
          binders = sides.numbered;
          low = omega (arith, sides.good_left.1, sides.good_right.1);
        },
        sides.written ∙ sym (three_texts (SS (binder_number given.0) given.1) (codes " <: ") (SS (binder_number given.0) given.2) rest),
      )

  type_claim_gives : (bytes : List ℕ) (x : NumberedClaim) (rest : List ℕ)
      → below_at (type_at Printed names 5000) type_has_binder TypeBelow bytes ≡ Got x rest → Read OfTypes bytes x rest
  type_claim_gives bytes x rest h =
      let given = below_gives (type_at Printed names 5000) type_has_binder TypeBelow GT TT Ends (type_at_gives names all apart Printed 5000) (type_at-text names all apart Printed 5000)
      type_is_first type_is_moved (type_moved names all apart) (λ rest. (refl, refl)) bytes x rest h in
      let sides = given.4 in
      subst (λ y. Read OfTypes bytes y rest) given.3 (
        record {
          kind_is = refl;
          named = ((sides.good_left.0.0, sides.good_left.1), (sides.good_right.0.0, sides.good_right.1));
          binders = sides.numbered;
          low = omega (arith, sides.good_left.0.1, sides.good_right.0.1);
        },
        sides.written ∙ sym (three_texts (TT (binder_number given.0) given.1) (codes " <: ") (TT (binder_number given.0) given.2) rest),
      )

  typing_claim_gives : (bytes : List ℕ) (x : NumberedClaim) (rest : List ℕ) → typing_claim_at names bytes ≡ Got x rest → Read OfTerms bytes x rest
  unfolding typing_claim_at
  typing_claim_gives bytes x rest h =
      let colon = got_from_bind (exact_at (codes ": ") bytes) (λ colon r.
      type_at Printed names 5000 (binder_number (value_of (first_at 5000 r))) r >>= λ type behind.
      numbered_claim (value_of (first_at 5000 r)) (has_binder type.shape) (OfType type) behind) x rest h in
      let first = value_of (first_at 5000 colon.1) in
      let type = got_from_bind (type_at Printed names 5000 (binder_number first) colon.1)
      (λ type behind. numbered_claim first (has_binder type.shape) (OfType type) behind) x rest colon.3 in
      let found = numbered_claim_gives first (has_binder type.0.shape) (OfType type.0) type.1 x rest type.3 in
      let given = type_at_gives names all apart Printed 5000 (binder_number first) colon.1 type.0 type.1 type.2 in
      subst (λ y. Read OfTerms bytes y rest) found.1 (
        record { kind_is = refl; named = (given.0.0.0, given.0.1); binders = found.0; low = given.0.0.1 },
        exact_at_gives (codes ": ") bytes colon.1 colon.0 colon.2
            ∙ ap (λ z. codes ": " ++ z) (given.1 ∙ ap (λ z. TT (binder_number first) type.0 ++ z) found.2),
      )

  pub claim_at_gives : (kind : ClaimKind) (bytes : List ℕ) (x : NumberedClaim) (rest : List ℕ) → claim_at names kind bytes ≡ Got x rest
      → Read kind bytes x rest
  unfolding claim_at
  claim_at_gives OfSets bytes x rest h = set_claim_gives bytes x rest h
  claim_at_gives OfShapes bytes x rest h = shape_claim_gives bytes x rest h
  claim_at_gives OfTypes bytes x rest h = type_claim_gives bytes x rest h
  claim_at_gives OfTerms bytes x rest h = typing_claim_gives bytes x rest h

  -- THE TEXT OF A CLAIM IS READ

  none_there : (first : Option ℕ) → false ≡ is_some first → first ≡ None
  none_there (Some n) h = cc
  none_there None h = refl

  set_claim_raw : (left right : Set) (rest : List ℕ) → NamedSet names all apart Printed 0 left → NamedSet names all apart Printed 0 right
      → set_claim_at names (codes "{" ++ (E left ++ 125 ∷ (codes " <: {" ++ (E right ++ 125 ∷ rest)))) ≡ Got (None, SetBelow left right) rest
  unfolding set_claim_at
  set_claim_raw left right rest ok other =
      rw (
        exact_at-text (codes "{") (E left ++ 125 ∷ (codes " <: {" ++ (E right ++ 125 ∷ rest))),
        printed_set-text left (codes " <: {" ++ (E right ++ 125 ∷ rest)) ok,
        exact_at-text (codes " <: {") (E right ++ 125 ∷ rest),
        printed_set-text right rest other,
      ) refl

  set_claim-text : (left right : Set) (rest : List ℕ) → NamedSet names all apart Printed 0 left → NamedSet names all apart Printed 0 right
      → set_claim_at names (ctext None (SetBelow left right) ++ rest) ≡ Got (None, SetBelow left right) rest
  set_claim-text left right rest ok other =
      subst (λ b. set_claim_at names b ≡ Got (None, SetBelow left right) rest) (sym (sets_text (E left) (E right) rest))
      (set_claim_raw left right rest ok other)

  typing_claim-text : (first : Option ℕ) (type : CapturingType) (rest : List ℕ) → GT (binder_number first) type
      → has_binder type.shape ≡ is_some first → Ends rest
      → typing_claim_at names (ctext first (OfType type) ++ rest) ≡ Got (first, OfType type) rest
  unfolding typing_claim_at
  typing_claim-text first type rest good numbered ends =
      let d = binder_number first in
      let same : value_of (first_at 5000 (TT d type ++ rest)) ≡ first =
      type_is_first d type rest good ∙ sym (number_is first (has_binder type.shape) numbered) in
      rw (exact_at-text (codes ": ") (TT d type ++ rest), same, type_at-text names all apart Printed 5000 d type rest good ends)
      (numbered_claim-holds first (has_binder type.shape) (OfType type) rest numbered)

  claim_in : (first : Option ℕ) (claim : Claim) (rest : List ℕ) → GoodClaim (claim_kind claim) first claim → Ends rest
      → claim_at names (claim_kind claim) (ctext first claim ++ rest) ≡ Got (first, claim) rest
  unfolding claim_at
  claim_in first (SetBelow left right) rest good ends =
      let none = none_there first good.binders in
      subst (λ f. set_claim_at names (ctext f (SetBelow left right) ++ rest) ≡ Got (f, SetBelow left right) rest) (sym none)
      (set_claim-text left right rest good.named.0 good.named.1)
  claim_in first (ShapeBelow left right) rest good ends =
      let d = binder_number first in
      let low = good.low in
      let sides : ShapeSides first left right (ctext first (ShapeBelow left right) ++ rest) rest = record {
        good_left = (good.named.0, omega (arith, low));
        good_right = (good.named.1, omega (arith, low));
        numbered = good.binders;
        written = three_texts (SS d left) (codes " <: ") (SS d right) rest;
      } in
      below-text (shape_at Printed names 5000) has_binder ShapeBelow GS SS Ends (shape_at_gives names all apart Printed 5000) shape_complete
      shape_is_first shape_is_moved (shape_moved names all apart) (λ rest. (refl, refl)) first left right (ctext first (ShapeBelow left right) ++ rest) rest sides ends
  claim_in first (TypeBelow left right) rest good ends =
      let d = binder_number first in
      let low = good.low in
      let sides : TypeSides first left right (ctext first (TypeBelow left right) ++ rest) rest = record {
        good_left = ((good.named.0.0, omega (arith, low)), good.named.0.1);
        good_right = ((good.named.1.0, omega (arith, low)), good.named.1.1);
        numbered = good.binders;
        written = three_texts (TT d left) (codes " <: ") (TT d right) rest;
      } in
      below-text (type_at Printed names 5000) type_has_binder TypeBelow GT TT Ends (type_at_gives names all apart Printed 5000) (type_at-text names all apart Printed 5000)
      type_is_first type_is_moved (type_moved names all apart) (λ rest. (refl, refl)) first left right (ctext first (TypeBelow left right) ++ rest) rest sides ends
  claim_in first (OfType type) rest good ends =
      typing_claim-text first type rest ((good.named.0, good.low), good.named.1) good.binders ends

  pub claim_at-text : (kind : ClaimKind) (first : Option ℕ) (claim : Claim) (rest : List ℕ) → GoodClaim kind first claim → Ends rest
      → claim_at names kind (ctext first claim ++ rest) ≡ Got (first, claim) rest
  claim_at-text kind first claim rest good ends =
      subst (λ k. GoodClaim k first claim → claim_at names k (ctext first claim ++ rest) ≡ Got (first, claim) rest) (sym good.kind_is)
      (λ g. claim_in first claim rest g ends) good

  -- NODES

  abbrev node_of : Rule → List ℕ → NumberedClaim → CertificateNode
  node_of rule premises x = record { rule = rule; premises = premises; first = x.0; claim = x.1 }

  abbrev node_text : ℕ → CertificateNode → List ℕ
  node_text number node = node_line names (binder_number node.first) number node.rule node.premises (placed_claim (length names) node.claim)

  conclusion_gives : (rule : Rule) (premises bytes : List ℕ) (line : Line) (rest : List ℕ) → conclusion_at names rule premises bytes ≡ Got line rest
      → (x : NumberedClaim) × (Concludes (node_of rule premises x) ≡ line) × GoodClaim (rule_kind rule) x.0 x.1
      × (bytes ≡ codes " " ++ (ctext x.0 x.1 ++ rest))
  unfolding conclusion_at
  conclusion_gives rule premises bytes line rest h =
      let space = got_from_bind (exact_at (codes " ") bytes) (λ s r. claim_at names (rule_kind rule) r >>= λ claim behind.
      Got (Concludes (node_of rule premises claim)) behind) line rest h in
      let claim = got_from_bind (claim_at names (rule_kind rule) space.1) (λ claim behind. Got (Concludes (node_of rule premises claim)) behind) line rest space.3 in
      let same = got_parts (Concludes (node_of rule premises claim.0)) line claim.1 rest claim.3 in
      let given = claim_at_gives (rule_kind rule) space.1 claim.0 claim.1 claim.2 in (
        claim.0,
        same.0,
        given.0,
        exact_at_gives (codes " ") bytes space.1 space.0 space.2 ∙ ap (λ z. 32 ∷ z) (given.1 ∙ ap (λ z. ctext claim.0.0 claim.0.1 ++ z) same.1),
      )

  pub node_at_gives : (count : ℕ) (unused bytes : List ℕ) (line : Line) (rest : List ℕ) → node_at names count unused bytes ≡ Got line rest
      → (node : CertificateNode) × (Concludes node ≡ line) × IsNextNode (length names) count unused node
      × (bytes ≡ node_text (suc count) node ++ rest)
  unfolding node_at numbered_node_at
  node_at_gives count unused bytes line rest h =
      let number = got_from_bind (where_true (nat_lt count 100000) (same_number_at (suc count) bytes))
      (λ n r. exact_at (codes " ") r >>= λ s r. numbered_node_at names unused r) line rest h in
      let few = got_from_test (nat_lt count 100000) (same_number_at (suc count) bytes) number.0 number.1 number.2 in
      let space = got_from_bind (exact_at (codes " ") number.1) (λ s r. numbered_node_at names unused r) line rest number.3 in
      let rule = got_from_bind (rule_at space.1) (λ rule r. exact_at (codes "[") r >>= λ b r. numbers_at r >>= λ premises r.
      where_true (ends_with unused premises) (conclusion_at names rule premises r)) line rest space.3 in
      let bracket = got_from_bind (exact_at (codes "[") rule.1) (λ b r. numbers_at r >>= λ premises r.
      where_true (ends_with unused premises) (conclusion_at names rule.0 premises r)) line rest rule.3 in
      let premises = got_from_bind (numbers_at bracket.1) (λ premises r.
      where_true (ends_with unused premises) (conclusion_at names rule.0 premises r)) line rest bracket.3 in
      let last = got_from_test (ends_with unused premises.0) (conclusion_at names rule.0 premises.0 premises.1) line rest premises.3 in
      let kept = ends_with_gives unused premises.0 last.0 in
      let end = conclusion_gives rule.0 premises.0 premises.1 line rest last.1 in
      let good = end.2 in
      let text = ctext end.0.0 end.0.1 in (
        node_of rule.0 premises.0 end.0,
        end.1,
        record {
          few = (Decides-ltb count 100000).0 few.0;
          kind = good.kind_is;
          named = good.named;
          binders = good.binders;
          low = good.low;
          kept = kept.0;
          premises = kept.1;
        },
        (same_number_at_gives (suc count) bytes number.1 number.0 few.1).1
            ∙ (ap (λ z. decimal (suc count) ++ z) (exact_at_gives (codes " ") number.1 space.1 space.0 space.2
            ∙ ap (λ z. 32 ∷ z) (rule_at_gives space.1 rule.0 rule.1 rule.2
            ∙ ap (λ z. rule_text rule.0 ++ 32 ∷ z) (exact_at_gives (codes "[") rule.1 bracket.1 bracket.0 bracket.2
            ∙ ap (λ z. 91 ∷ z) (numbers_at_give bracket.1 premises.0 premises.1 premises.2
            ∙ ap (λ z. numbers_text premises.0 ++ 93 ∷ z) end.3))))
            ∙ sym (seven_texts (decimal (suc count)) (codes " ") (rule_text rule.0) (codes " [") (numbers_text premises.0) (codes "] ") text rest)),
      )

  conclusion-text : (rule : Rule) (premises : List ℕ) (first : Option ℕ) (claim : Claim) (rest : List ℕ) → GoodClaim (rule_kind rule) first claim → Ends rest
      → conclusion_at names rule premises (codes " " ++ (ctext first claim ++ rest)) ≡ Got (Concludes (node_of rule premises (first, claim))) rest
  unfolding conclusion_at
  conclusion-text rule premises first claim rest good ends =
      rw (exact_at-text (codes " ") (ctext first claim ++ rest), claim_at-text (rule_kind rule) first claim rest good ends) refl

  numbered-text : (unused : List ℕ) (node : CertificateNode) (rest : List ℕ) → AllByRecursion IsLow node.premises
      → ends_with unused node.premises ≡ true → GoodClaim (rule_kind node.rule) node.first node.claim → Ends rest
      → numbered_node_at names unused (rule_text node.rule ++ 32 ∷ (codes "[" ++ (numbers_text node.premises ++ 93 ∷ (codes " " ++ (ctext node.first node.claim ++ rest)))))
      ≡ Got (Concludes node) rest
  unfolding numbered_node_at
  numbered-text unused node rest low last good ends =
      let after = codes " " ++ (ctext node.first node.claim ++ rest) in
      rw (
        rule_at-text node.rule (codes "[" ++ (numbers_text node.premises ++ 93 ∷ after)),
        exact_at-text (codes "[") (numbers_text node.premises ++ 93 ∷ after),
        numbers_at-text node.premises after low,
        last,
      )
      (conclusion-text node.rule node.premises node.first node.claim rest good ends)

  whole-text : (count : ℕ) (unused : List ℕ) (node : CertificateNode) (rest : List ℕ) → count < 100000 → AllByRecursion IsLow node.premises
      → ends_with unused node.premises ≡ true → GoodClaim (rule_kind node.rule) node.first node.claim → Ends rest
      → node_at names count unused (decimal (suc count) ++ (codes " " ++ (rule_text node.rule ++ 32 ∷ (codes "[" ++ (numbers_text node.premises ++ 93 ∷ (codes " " ++ (ctext node.first node.claim ++ rest)))))))
      ≡ Got (Concludes node) rest
  unfolding node_at
  whole-text count unused node rest few low last good ends =
      let after = rule_text node.rule ++ 32 ∷ (codes "[" ++ (numbers_text node.premises ++ 93 ∷ (codes " " ++ (ctext node.first node.claim ++ rest)))) in
      let small : suc count < 2 ^ 32 = omega (arith, few) in
      rw ((Decides-ltb count 100000).1 few, same_number_at-decimal (suc count) (codes " " ++ after) small refl, exact_at-text (codes " ") after)
      (numbered-text unused node rest low last good ends)

  -- the text of a node that fits is read as that node
  pub node_at-text : (count : ℕ) (unused : List ℕ) (node : CertificateNode) (rest : List ℕ) → AllByRecursion IsLow unused
      → IsNextNode (length names) count unused node → Ends rest
      → node_at names count unused (node_text (suc count) node ++ rest) ≡ Got (Concludes node) rest
  node_at-text count unused node rest low next ends =
      let good : GoodClaim (rule_kind node.rule) node.first node.claim =
      record { kind_is = next.kind; named = next.named; binders = next.binders; low = next.low } in
      let premises = all_last IsLow next.kept node.premises (subst (AllByRecursion IsLow) next.premises low) in
      let last : ends_with unused node.premises ≡ true =
      subst (λ u. ends_with u node.premises ≡ true) (sym next.premises) (ends_with-holds next.kept node.premises) in
      subst (λ b. node_at names count unused b ≡ Got (Concludes node) rest)
      (sym (seven_texts (decimal (suc count)) (codes " ") (rule_text node.rule) (codes " [") (numbers_text node.premises) (codes "] ") (ctext node.first node.claim) rest))
      (whole-text count unused node rest next.few premises last good ends)
