-- A type that has a signature over so many positions and one more, and none over so many: the position between cannot be
-- avoided in the one that it has.
use Rattle.std.proofs.Common.{◌≡◌, ℕ, suc, ◌<◌, ◌≤◌, cond, [], ◌∷◌, length, Option, Some, None}
use Rattle.std.proofs.Common.{refl, sym, ap, ◌∙◌, arith, ◌⊎◌, inl, inr}
use Rattle.std.specs.Option.{option_and_then}
use Rattle.std.proofs.lemmas.Bool.{cases_lt, lt-ltb, le-ltb}
use Rattle.cc_core.specs.Shapes.{CapturingType}
use Rattle.cc_core.specs.Contexts.{Bind, Context}
use Rattle.cc_checking.specs.Avoidance.{Positive, avoided_type}
use Rattle.cc_checking.specs.Verdicts.{declared_set, signature_of}
use Rattle.cc_reasons.specs.Causes.{Cause, Unavoidable}
use Rattle.cc_reasons.specs.DefinitionReasons.{outermost, none_or, unsigned_among, unsigned_cause}

-- over all positions a type is its own signature
pub signature_late : (count : ℕ) (these : Context) (type : CapturingType) → length these ≤ count
    → signature_of count these type ≡ Some type
signature_late count [] type all = refl
signature_late count (newest ∷ older) type all =
    ap (λ b. cond b (Some type)
    (option_and_then (signature_of count older) (avoided_type Positive (length older) (declared_set newest) type)))
    (lt-ltb (length older) count (omega (arith, all)))

-- over those before the newest, it has the signature of what is left of it
signature_next : (count : ℕ) (newest : Bind) (older : Context) (type : CapturingType) → count ≤ length older
    → signature_of count (newest ∷ older) type
    ≡ option_and_then (signature_of count older) (avoided_type Positive (length older) (declared_set newest) type)
signature_next count newest older type past =
    ap (λ b. cond b (Some type)
    (option_and_then (signature_of count older) (avoided_type Positive (length older) (declared_set newest) type)))
    (le-ltb (length older) count past)

module _ (globals : Context) where
  -- where nothing is left of it
  told_here : (o : Option CapturingType) (count : ℕ) (older : Context) (type : CapturingType) → length older ≤ count
      → option_and_then (signature_of count older) o ≡ None
      → none_or o (Unavoidable (outermost globals) count type) (λ rest. unsigned_among globals older rest)
      ≡ Unavoidable (outermost globals) count type
  told_here None count older type all none = refl
  told_here (Some rest) count older type all none =
      let is = sym (signature_late count older rest all) ∙ none in cc

  -- where something is
  told_behind : (o : Option CapturingType) (count : ℕ) (older : Context) (left : CapturingType) (here : Cause)
      → ((type : CapturingType) → signature_of count older type ≡ None → signature_of (suc count) older type ≡ Some left
      → unsigned_among globals older type ≡ Unavoidable (outermost globals) count left)
      → option_and_then (signature_of count older) o ≡ None
      → option_and_then (signature_of (suc count) older) o ≡ Some left
      → none_or o here (λ rest. unsigned_among globals older rest) ≡ Unavoidable (outermost globals) count left
  told_behind None count older left here again none is = cc
  told_behind (Some rest) count older left here again none is = again rest none is

  unsigned_before : (count : ℕ) (these : Context) (type left : CapturingType) → signature_of count these type ≡ None
      → signature_of (suc count) these type ≡ Some left
      → unsigned_among globals these type ≡ Unavoidable (outermost globals) count left
  unsigned_before count [] type left none is = cc
  unsigned_before count (newest ∷ older) type left none is =
      elim (cases_lt (length older) (suc count)) [
        | inl within ↦ at_newest (cases_lt (length older) count) within
        | inr past ↦
            told_behind (avoided_type Positive (length older) (declared_set newest) type) count older left
            (Unavoidable (outermost globals) (length older) type)
            (λ rest. unsigned_before count older rest left)
            (sym (signature_next count newest older type (omega (arith, past))) ∙ none)
            (sym (signature_next (suc count) newest older type past) ∙ is)
      ]
    where
      at_newest : (length older < count) ⊎ (count ≤ length older) → length older < suc count
          → unsigned_among globals (newest ∷ older) type ≡ Unavoidable (outermost globals) count left
      at_newest (inl below) within =
          let has = sym (signature_late count (newest ∷ older) type (omega (arith, below))) ∙ none in cc
      at_newest (inr past) within =
          let here : length older ≡ count = omega (arith, past, within) in
          let same = sym (signature_late (suc count) (newest ∷ older) type (omega (arith, within))) ∙ is in
          let type_is : type ≡ left = cc in
          ap (λ n. none_or (avoided_type Positive (length older) (declared_set newest) type)
          (Unavoidable (outermost globals) n type) (λ rest. unsigned_among globals older rest)) here
          ∙ told_here (avoided_type Positive (length older) (declared_set newest) type) count older type (omega (arith, here))
          (sym (signature_next count newest older type past) ∙ none)
          ∙ ap (Unavoidable (outermost globals) count) type_is

-- why it has none
pub unsigned_is : (globals : Context) (count : ℕ) (type left : CapturingType) → signature_of count globals type ≡ None
    → signature_of (suc count) globals type ≡ Some left
    → unsigned_cause globals type ≡ Unavoidable (outermost globals) count left
unsigned_is globals count type left none is = unsigned_before globals count globals type left none is

-- a type without a signature has positions to avoid
pub unsigned_within : (globals : Context) (count : ℕ) (type : CapturingType) → signature_of count globals type ≡ None
    → count < length globals
unsigned_within globals count type none =
    elim (cases_lt count (length globals)) [
      | inl within ↦ within
      | inr all ↦ let is = sym (signature_late count globals type all) ∙ none in cc
    ]
