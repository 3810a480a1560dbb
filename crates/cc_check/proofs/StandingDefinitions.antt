-- A well-formed right side stands in its context, and what is written for its type reads well there.
use Rattle.std.proofs.Common.{◌≡◌, ℕ, [], ◌∷◌, length, refl, sym}
use Rattle.cc_core.specs.Shapes.{CapturingType, capturing}
use Rattle.cc_core.specs.Terms.{Note, Absent, Written, Own, Term}
use Rattle.cc_core.specs.Contexts.{Context, entry_of}
use Rattle.cc_core.specs.WellFormed.{TermKind, kinds_of, IsWellFormedNote, IsWellFormedTerm, IsWellFormedType}
use Rattle.cc_core.proofs.KindFacts.{IsKindedNote-from, IsKindedType-from, IsKinded-test, IsKindedType-test}
use Rattle.cc_core.proofs.Sorts.{ShapeSort, TypeSort}
use Rattle.cc_core.proofs.SubcapturingContexts.{IsKinded-added, IsKindedSet-added}
use Rattle.cc_checking.specs.Inference.{shape_in, type_in}
use Rattle.cc_checking_laws.proofs.ReadingKinds.{outermost, read_kinded}
use Rattle.cc_type.specs.Standing.{StandsIn, NoteReadsWell}

-- no binder was passed
pub stands_itself : (root : ℕ) (g : Context) (t : Term) → root ≡ length g → IsWellFormedTerm g t → StandsIn root g t
stands_itself root g t is w = record { base = g; passed = []; is = refl; root_is = sym is; formed = w }

pub note_reads_well : (g : Context) (n : Note) → IsWellFormedNote g n → NoteReadsWell g n
note_reads_well g Absent w = tt
note_reads_well g (Written s c) w =
    IsKindedType-test (kinds_of g) [] (type_in g (capturing s c))
    (read_kinded outermost TypeSort (capturing s c) (IsKindedNote-from (kinds_of g) [] (Written s c) w))
note_reads_well g (Own s) w =
    IsKinded-test (kinds_of g) [] (shape_in g s)
    (read_kinded outermost ShapeSort s (IsKindedNote-from (kinds_of g) [] (Own s) w))

-- a type is well formed with one entry more
pub type_with_own_name : (g : Context) (t : CapturingType) → IsWellFormedType g t
    → IsWellFormedType (entry_of t ∷ g) t
type_with_own_name g t w =
    let k = IsKindedType-from (kinds_of g) [] t w in
    IsKindedType-test (TermKind ∷ kinds_of g) [] t
    (IsKinded-added TermKind (kinds_of g) [] t.shape k.0, IsKindedSet-added TermKind (kinds_of g) [] t.set k.1)
