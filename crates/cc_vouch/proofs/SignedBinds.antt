-- A walk over binds from the last one on gives the signature.
use Rattle.std.proofs.Common.{◌≡◌, ℕ, ◌+◌, ◌<◌, ◌≤◌, Bool, true, false, cond, List, [], ◌∷◌, ◌++◌, map, length, Option, Some, None, refl, sym, ap, subst, ◌∙◌, arith}
use Rattle.std.specs.Prelude.{nat_lt}
use Rattle.std.specs.Option.{option_map, option_and_then}
use Rattle.std.proofs.lemmas.Bool.{ltb-true, ltb-false}
use Rattle.cc_core.specs.Contexts.{Bind, TermEntry, TypeEntry, Context, entry_of}
use Rattle.cc_core.specs.Shapes.{CapturingType}
use Rattle.cc_core.specs.TermViews.{type_of}
use Rattle.cc_core.specs.declared.types.Ty.{Ty}
use Rattle.cc_checking.specs.Avoidance.{Positive, avoided_type}
use Rattle.cc_checking.specs.Verdicts.{declared_set, signature_of}
use Rattle.cc_certificate_judging.specs.CertificateParts.{CertificateBind, bound_context}
use Rattle.cc_certificate_judging.specs.Judging.{with_binds}
use Rattle.cc_vouch.specs.BindViews.{bind_of, binds_of, context_of, SignsAs}

-- the last bind is the newest
last_newest : (binds : List (List ℕ × Ty)) (last : List ℕ × Ty) (g : Context)
    → with_binds g (map (λ bind. bind.1) (binds_of (binds ++ last ∷ [])))
    ≡ entry_of (type_of last.1) ∷ with_binds g (map (λ bind. bind.1) (binds_of binds))
last_newest [] last g = refl
last_newest (first ∷ binds) last g = last_newest binds last (entry_of (type_of first.1) ∷ g)

count_from : (binds : List (List ℕ × Ty)) (g : Context)
    → length (with_binds g (map (λ bind. bind.1) (binds_of binds))) ≡ length g + length binds
count_from [] g = omega arith
count_from (first ∷ binds) g = let rest = count_from binds (entry_of (type_of first.1) ∷ g) in omega arith

count_binds : (binds : List (List ℕ × Ty)) → length (context_of binds) ≡ length binds
count_binds binds = let all = count_from binds [] in omega arith

-- behind the devices the newest position is avoided
not_device : (devices : ℕ) (type : CapturingType) (older : Context) (newest : Bind) → devices ≤ length older
    → signature_of devices (newest ∷ older) type
    ≡ option_and_then (signature_of devices older)
    (avoided_type Positive (length older) (declared_set newest) type)
not_device devices type older newest most =
    by_test (nat_lt (length older) devices) refl
  where
    by_test : (test : Bool) → nat_lt (length older) devices ≡ test
        → cond test (Some type)
        (option_and_then (signature_of devices older) (avoided_type Positive (length older) (declared_set newest) type))
        ≡ option_and_then (signature_of devices older)
        (avoided_type Positive (length older) (declared_set newest) type)
    by_test true is = let less = ltb-true (length older) devices is in absurd (omega arith)
    by_test false is = refl

signed_step : (devices : ℕ) (binds earlier : List (List ℕ × Ty)) (last : List ℕ × Ty) (type : CapturingType)
    → binds ≡ earlier ++ last ∷ [] → devices < length binds → length earlier + 1 ≡ length binds
    → signature_of devices (context_of binds) type
    ≡ option_and_then (signature_of devices (context_of earlier))
    (avoided_type Positive (length earlier) (type_of last.1).set type)
signed_step devices binds earlier last type is more count =
    let g = context_of earlier in
    let n = count_binds earlier in
    let low : devices ≤ length g = omega arith in
    ap (λ b. signature_of devices (context_of b) type) is
    ∙ ap (λ c. signature_of devices c type) (last_newest earlier last [])
    ∙ not_device devices type g (entry_of (type_of last.1)) low
    ∙ ap (λ m. option_and_then (signature_of devices g) (avoided_type Positive m (type_of last.1).set type)) n

-- one more is avoided
pub signs_on : (devices : ℕ) (binds earlier whole : List (List ℕ × Ty)) (last : List ℕ × Ty)
    (type other : CapturingType) (next : Option Ty) → binds ≡ earlier ++ last ∷ [] → devices < length binds
    → length earlier + 1 ≡ length binds
    → option_map type_of next ≡ avoided_type Positive (length earlier) (type_of last.1).set type
    → SignsAs devices binds type whole other
    → option_and_then (signature_of devices (context_of earlier)) (option_map type_of next)
    ≡ signature_of devices (context_of whole) other
signs_on devices binds earlier whole last type other next is more count avoids signs =
    ap (option_and_then (signature_of devices (context_of earlier))) avoids
    ∙ sym (signed_step devices binds earlier last type is more count) ∙ signs

-- where devices alone are left, the type is the signature
pub signed_end : (devices : ℕ) (binds : List (List ℕ × Ty)) (type : CapturingType) → length binds ≤ devices
    → signature_of devices (context_of binds) type ≡ Some type
signed_end devices binds type few = devices_alone (context_of binds) (let n = count_binds binds in omega arith)
  where
    by_test : (older : Context) (newest : Bind) → length older < devices → (test : Bool)
        → nat_lt (length older) devices ≡ test
        → cond test (Some type)
        (option_and_then (signature_of devices older) (avoided_type Positive (length older) (declared_set newest) type))
        ≡ Some type
    by_test older newest less true is = refl
    by_test older newest less false is = let most = ltb-false (length older) devices is in absurd (omega arith)

    devices_alone : (g : Context) → length g ≤ devices → signature_of devices g type ≡ Some type
    devices_alone [] low = refl
    devices_alone (newest ∷ older) low =
        by_test older newest (omega arith) (nat_lt (length older) devices) refl
