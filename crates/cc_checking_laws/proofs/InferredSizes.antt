-- What is inferred passed the test of its size.
use Rattle.std.proofs.Common.{◌≡◌, ℕ, Bool, true, false, cond, List, refl, ap, ◌∙◌}
use Rattle.std.specs.Prelude.{nat_le}
use Rattle.cc_base.specs.declared.code.Code.TheVariants.{E18}
use Rattle.cc_base.specs.declared.place.Place.{Place}
use Rattle.cc_core.specs.Terms.{Absent, Written, Own, Term, VariableTerm, LiteralTerm, FunctionTerm, TypeFunctionTerm, BoxTerm, Application, TypeApplication, Unboxing, Let, Primitive, Conditional, Repetition, Operation, Boundary, Leave}
use Rattle.cc_core.specs.Contexts.{Context}
use Rattle.cc_core.specs.Sizes.{type_size}
use Rattle.cc_core.specs.Places.{Places}
use Rattle.cc_checking.specs.Outcomes.{Asked, Placed, Outcome, Refused, Found, finds}
use Rattle.cc_checking.specs.Inference.{Result, Ways, tested, sized, inferred, limited, greatest_size, Infers}
use Rattle.cc_checking_laws.proofs.FoundFindings.{Came, then_came, finds_came}

tested_passes : (w : Ways) (at : Place) (a : Result) {r : Result} {qs : List Asked} → Came (tested w at a) r qs → w.passes r.type ≡ true
tested_passes w at a {r} {qs} c = by_test (w.passes a.type) refl c
  where
    by_test : (b : Bool) → w.passes a.type ≡ b → Came (cond b (finds a) (Refused E18 at)) r qs → w.passes r.type ≡ true
    by_test true is c = ap (λ (x : Result). w.passes x.type) (finds_came c).0 ∙ is
    by_test false is (list, e, q) = cc

sized_passes : (w : Ways) (places : Places) (o : Outcome Result) {r : Result} {qs : List Asked} → Came (sized w places o) r qs → w.passes r.type ≡ true
sized_passes w places o c = let k = then_came c in tested_passes w _ k.value k.rest

passes : (by : Ways) (root : ℕ) (g : Context) (t : Term) (places : Places) {r : Result} {qs : List Asked} → Came (inferred by root g t places) r qs → by.passes r.type ≡ true
passes by root g (VariableTerm v) places c = sized_passes by places _ c
passes by root g (LiteralTerm l) places c = sized_passes by places _ c
passes by root g (FunctionTerm x y t) places c = sized_passes by places _ c
passes by root g (TypeFunctionTerm x t) places c = sized_passes by places _ c
passes by root g (BoxTerm v) places c = sized_passes by places _ c
passes by root g (Application v w) places c = sized_passes by places _ c
passes by root g (TypeApplication v s) places c = sized_passes by places _ c
passes by root g (Unboxing o v) places c = sized_passes by places _ c
passes by root g (Let n s t) places c = sized_passes by places _ c
passes by root g (Primitive o v w) places c = sized_passes by places _ c
passes by root g (Conditional Absent v s t) places (list, e, q) = cc
passes by root g (Conditional (Written x y) v s t) places c = sized_passes by places _ c
passes by root g (Conditional (Own x) v s t) places c = sized_passes by places _ c
passes by root g (Repetition v w) places c = sized_passes by places _ c
passes by root g (Operation o v w) places c = sized_passes by places _ c
passes by root g (Boundary x t) places c = sized_passes by places _ c
passes by root g (Leave x y v w) places c = sized_passes by places _ c

pub not_too_large : (root : ℕ) (g : Context) (t : Term) (places : Places) (r : Result) (asked : List Placed) → Infers root g t places (Found r asked) → nat_le (type_size r.type) greatest_size ≡ true
not_too_large root g t places r asked (n, is, done) = passes (limited n) root g t places (asked, is, refl)
