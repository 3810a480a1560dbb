-- The outermost set of a signature: its devices come from the type's set, or from the sets of the definitions in it.
use Rattle.std.proofs.Common.{◌≡◌, ◌↔◌, ℕ, suc, ◌<◌, ◌≤◌, nat_lt, Bool, true, false, cond, [], ◌∷◌, length, Some, refl, sym, ap, ◌∙◌, subst, inl, inr, arith}
use Rattle.std.proofs.lemmas.Bool.{cases_eq, ltb-true, ltb-false, both_ways}
use Rattle.std.specs.Option.{option_and_then}
use Rattle.cc_capture.specs.declared.var.Var.TheVariants.{Bound, Free}
use Rattle.cc_capture.specs.declared.var.Elem.{Elem}
use Rattle.cc_capture.specs.declared.var.Elem.TheVariants.{Var as Variable, Cap, Hole}
use Rattle.cc_capture.specs.Sets.{Set, Member, contains, union, remove}
use Rattle.cc_capture.proofs.Membership.{Member-union, Member-remove}
use Rattle.cc_core.specs.Shapes.{Shape, CapturingType}
use Rattle.cc_core.specs.Contexts.{Bind, TermEntry, TypeEntry, Context, lookup}
use Rattle.cc_core.proofs.Lookups.{lookup-newest, lookup-older}
use Rattle.cc_checking.specs.Avoidance.{Positive, has_position, avoided_set, avoided_type}
use Rattle.cc_checking.specs.Fillings.{IsGlobal}
use Rattle.cc_checking.specs.Verdicts.{signature_of}
use Rattle.cc_typing_laws.proofs.Avoiding.{avoided_type_parts}
use Rattle.cc_checking_laws.proofs.Signatures.{and_then_parts}
use Rattle.cc_checking_laws.specs.FillingLaws.{AreGlobals}
use Rattle.cc_checking_laws.specs.CheckingLaws.{SetsAreOverDevices, IsOfSetOrItsDefinitions}

-- an element is the universal capability, or a position below the bound
abbrev pub IsWithin : ℕ → Elem → Type 0
IsWithin bound e = IsGlobal bound e

more_within : (a b : ℕ) → a ≤ b → (e : Elem) → IsGlobal a e → IsGlobal b e
more_within a b le (Variable (Free p)) g = omega arith
more_within a b le (Variable (Bound i)) g = absurd g
more_within a b le Cap g = tt
more_within a b le (Hole n) g = absurd g

module _ (devices : ℕ) (globals : Context) (over : SetsAreOverDevices devices globals) where
  -- the element is a device or the universal capability, and comes from the set
  abbrev pub ComesFrom : Set → Elem → Type 0
  ComesFrom set e = IsGlobal devices e × IsOfSetOrItsDefinitions devices globals set e

  -- a set over the devices has no definition in it
  pub of_devices : (set : Set) → ((e : Elem) → Member e set → IsGlobal devices e) → (e : Elem) → Member e set ↔ ComesFrom set e
  of_devices set within e = (λ m. (within e m, inl m), λ c. from c.1)
    where
      from : IsOfSetOrItsDefinitions devices globals set e → Member e set
      from (inl m) = m
      from (inr (p, s, d, above, m, there, m')) = let below : p < devices = within (Variable (Free p)) m in absurd (omega arith)

  -- avoiding one definition
  module _ (q : ℕ) (s : Shape) (d : Set) (past : devices ≤ q) (there : lookup globals q ≡ Some (TermEntry s d)) where
    same_declared : (p : ℕ) → p ≡ q → (s' : Shape) (d' : Set) → lookup globals p ≡ Some (TermEntry s' d') → d' ≡ d
    same_declared p same s' d' found = let both : Some (TermEntry s' d') ≡ Some (TermEntry s d) = sym found ∙ ap (lookup globals) same ∙ there in cc

    abbrev without : Set → Set
    without set = union (remove (Variable (Free q)) set) d

    -- where the definition is a member
    member_gone : (set : Set) → Member (Variable (Free q)) set → (e : Elem) → IsGlobal devices e → IsOfSetOrItsDefinitions devices globals (without set) e
        → IsOfSetOrItsDefinitions devices globals set e
    member_gone set has e g (inl m) =
        elim ((Member-union e (remove (Variable (Free q)) set) d).0 m) as (λ _. IsOfSetOrItsDefinitions devices globals set e) [
          | inl kept ↦ inl ((Member-remove e (Variable (Free q)) set).0 kept).1
          | inr added ↦ inr (q, s, d, past, has, there, added)
        ]
    member_gone set has e g (inr (p, s', d', above, m, found, m')) =
        elim ((Member-union (Variable (Free p)) (remove (Variable (Free q)) set) d).0 m) as (λ _. IsOfSetOrItsDefinitions devices globals set e) [
          | inl kept ↦ inr (p, s', d', above, ((Member-remove (Variable (Free p)) (Variable (Free q)) set).0 kept).1, found, m')
          | inr added ↦ let below : p < devices = over q s d (Variable (Free p)) past there added in absurd (omega arith)
        ]

    stays : (set : Set) (e : Elem) → (e ≡ Variable (Free q) → ⊥) → Member e set → Member e (without set)
    stays set e other m = (Member-union e (remove (Variable (Free q)) set) d).1 (inl ((Member-remove e (Variable (Free q)) set).1 (other, m)))

    member_back : (set : Set) (e : Elem) → IsGlobal devices e → IsOfSetOrItsDefinitions devices globals set e → IsOfSetOrItsDefinitions devices globals (without set) e
    member_back set e g (inl m) = inl (stays set e (λ is. let below : q < devices = subst (IsGlobal devices) is g in absurd (omega arith)) m)
    member_back set e g (inr (p, s', d', above, m, found, m')) =
        elim (cases_eq p q) as (λ _. IsOfSetOrItsDefinitions devices globals (without set) e) [
          | inl same ↦ inl ((Member-union e (remove (Variable (Free q)) set) d).1 (inr (subst (Member e) (same_declared p same s' d' found) m')))
          | inr other ↦ inr (p, s', d', above, stays set (Variable (Free p)) (λ is. absurd (other cc)) m, found, m')
        ]

    avoided_comes : (set : Set) (e : Elem) → ComesFrom (avoided_set Positive q d set) e ↔ ComesFrom set e
    unfolding contains
    avoided_comes set e = by_test (has_position q set) refl
      where
        by_test : (b : Bool) → has_position q set ≡ b → ComesFrom (cond b (without set) set) e ↔ ComesFrom set e
        by_test true has = (λ c. (c.0, member_gone set has e c.0 c.1), λ c. (c.0, member_back set e c.0 c.1))
        by_test false has = (λ c. c, λ c. c)

    -- what is then within one position less
    avoided_within : (set : Set) → ((e : Elem) → Member e set → IsGlobal (suc q) e) → (e : Elem) → Member e (avoided_set Positive q d set) → IsGlobal q e
    unfolding contains
    avoided_within set within e m = by_test (has_position q set) refl m
      where
        lower : (x : Elem) → (x ≡ Variable (Free q) → ⊥) → IsGlobal (suc q) x → IsGlobal q x
        lower (Variable (Free p)) other g = elim (cases_eq p q) as (λ _. p < q) [ inl same ↦ absurd (other (ap (λ k. Variable (Free k)) same)) | inr differs ↦ omega arith ]
        lower (Variable (Bound i)) other g = absurd g
        lower Cap other g = tt
        lower (Hole n) other g = absurd g

        by_test : (b : Bool) → has_position q set ≡ b → Member e (cond b (without set) set) → IsGlobal q e
        by_test true has m =
            elim ((Member-union e (remove (Variable (Free q)) set) d).0 m) as (λ _. IsGlobal q e) [
              | inl kept ↦ let parts = (Member-remove e (Variable (Free q)) set).0 kept in lower e parts.0 (within e parts.1)
              | inr added ↦ more_within devices q past e (over q s d e past there added)
            ]
        by_test false has m = lower e (λ is. both_ways (has_position q set) has (subst (λ x. Member x set) is m)) (within e m)

  -- avoiding all definitions
  pub signature_comes : (older : Context) → ((p : ℕ) (b : Bind) → lookup older p ≡ Some b → lookup globals p ≡ Some b) → AreGlobals older → (type signature : CapturingType)
      → ((e : Elem) → Member e type.set → IsGlobal (length older) e) → signature_of devices older type ≡ Some signature
      → (e : Elem) → Member e signature.set ↔ ComesFrom type.set e
  signature_comes [] more alone type signature within signs e =
      let is : type ≡ signature = cc in
      subst (λ (t : CapturingType). Member e t.set ↔ ComesFrom type.set e) is
      (of_devices type.set (λ x m. more_within 0 devices (omega arith) x (within x m)) e)
  signature_comes (TypeEntry b ∷ older) more alone type signature within signs e = absurd alone
  signature_comes (TermEntry s d ∷ older) more alone type signature within signs e =
      elim (nat_lt (length older) devices) as (λ t. nat_lt (length older) devices ≡ t
      → cond t (Some type) (option_and_then (signature_of devices older) (avoided_type Positive (length older) d type)) ≡ Some signature
      → Member e signature.set ↔ ComesFrom type.set e) [
        | true ↦ λ below found.
            let is : type ≡ signature = cc in
            let less = ltb-true (length older) devices below in
            subst (λ (t : CapturingType). Member e t.set ↔ ComesFrom type.set e) is
            (of_devices type.set (λ x m. more_within (suc (length older)) devices (omega arith) x (within x m)) e)
        | false ↦ λ above found.
            let past = ltb-false (length older) devices above in
            let parts = and_then_parts (signature_of devices older) (avoided_type Positive (length older) d type) signature found in
            let there = more (length older) (TermEntry s d) (lookup-newest (TermEntry s d) older) in
            let set = (avoided_type_parts Positive (length older) d type parts.0 parts.1).1 in
            let rest = signature_comes older (λ q b h. more q b (lookup-older (TermEntry s d) older q b h)) alone.2 parts.0 signature
            (λ x m. avoided_within (length older) s d past there type.set within x (subst (Member x) (sym set) m)) parts.2 e in
            let step = avoided_comes (length older) s d past there type.set e in
            (λ m. step.0 (subst (λ c. ComesFrom c e) (sym set) (rest.0 m)), λ c. rest.1 (subst (λ c. ComesFrom c e) set (step.1 c)))
      ] refl signs
