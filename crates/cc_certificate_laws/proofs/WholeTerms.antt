-- A term that has a valid derivation and no hole can be written.
use Rattle.std.proofs.Common.{◌≡◌, ℕ, zero, suc, true, false, Option, Some, None, length, refl, sym, subst, ◌∙◌, is_some}
use Rattle.std.specs.Option.{option_map}
use Rattle.cc_base.specs.declared.literal.Base.{Base}
use Rattle.cc_base.specs.declared.literal.Op.{Op}
use Rattle.cc_base.specs.declared.literal.Op.TheVariants as operations
use Rattle.cc_capture.specs.Sets.{Set}
use Rattle.cc_core.specs.Shapes.{Shape}
use Rattle.cc_core.specs.Contexts.{Context}
use Rattle.cc_core.specs.Terms.{Note, Absent, Written, Own, Term, VariableTerm, LiteralTerm, FunctionTerm, TypeFunctionTerm, BoxTerm, Application, TypeApplication, Unboxing, Let, Primitive, Conditional, Repetition, Operation, Boundary, Leave}
use Rattle.cc_core.specs.Traversal.{Action, act_note, act_set, act_term}
use Rattle.cc_core.specs.Substitution.{opening}
use Rattle.cc_core.specs.Occurrences.{HasNoHole, Meets, MeetsInNote, MeetsInTerm, MeetsInOptionalSet, without_holes}
use Rattle.cc_core.specs.Typing.{base_taken, IsNoteOf}
use Rattle.cc_core.specs.Derivations.{t-var, t-lit, t-abs, t-tabs, t-app, t-tapp, t-box, t-unbox, t-let, t-prim, t-if, t-repeat, t-op, t-boundary, t-exit, t-sub, Derivation, Node, NoPremise, one, two, three, IsValidTyping}
use Rattle.cc_checking_laws.proofs.Tameness.{closed_from}
use Rattle.cc_checking_laws.proofs.TameFindings.{closed_to}
use Rattle.cc_certificate_text.specs.Certificates.{IsWritten, IsWrittenNote, IsOptionalNote, IsWrittenSet, takes_argument}
use Rattle.cc_certificate_laws.specs.DefinitionLaws.{HasWrittenLiterals, ValidTermsAreWhole}

abbrev IsThere : Option Set → Type 0
IsThere (Some set) = Unit {0}
IsThere None = ⊥

-- a type is written, or nothing is
abbrev IsOrdinary : Note → Type 0
IsOrdinary Absent = Unit {0}
IsOrdinary (Written shape set) = Unit {0}
IsOrdinary (Own shape) = ⊥

abbrev IsGiven : Note → Type 0
IsGiven Absent = ⊥
IsGiven (Written shape set) = Unit {0}
IsGiven (Own shape) = ⊥

-- nothing is omitted that has to be there, and operations have their arguments
abbrev IsWhole : Term → Type 0
IsWhole (VariableTerm v) = Unit {0}
IsWhole (LiteralTerm l) = Unit {0}
IsWhole (FunctionTerm s c t) = IsWhole t
IsWhole (TypeFunctionTerm s t) = IsWhole t
IsWhole (BoxTerm v) = Unit {0}
IsWhole (Application v w) = Unit {0}
IsWhole (TypeApplication v s) = Unit {0}
IsWhole (Unboxing o v) = IsThere o
IsWhole (Let n s t) = IsOrdinary n × IsWhole s × IsWhole t
IsWhole (Primitive o v w) = Unit {0}
IsWhole (Conditional n v s t) = IsGiven n × IsWhole s × IsWhole t
IsWhole (Repetition v w) = Unit {0}
IsWhole (Operation o v a) = takes_argument o ≡ is_some a
IsWhole (Boundary s t) = IsWhole t
IsWhole (Leave s c v w) = Unit {0}

there_before : (a : Action) (d : ℕ) (o : Option Set) → IsThere (option_map (act_set a d) o) → IsThere o
there_before a d (Some set) h = tt
there_before a d None h = h

ordinary_before : (a : Action) (d : ℕ) (n : Note) → IsOrdinary (act_note a d n) → IsOrdinary n
ordinary_before a d Absent h = tt
ordinary_before a d (Written s c) h = tt
ordinary_before a d (Own s) h = h

given_before : (a : Action) (d : ℕ) (n : Note) → IsGiven (act_note a d n) → IsGiven n
given_before a d Absent h = h
given_before a d (Written s c) h = tt
given_before a d (Own s) h = h

argument_before : {A B : Type 0} (f : A → B) (o : Option A) → is_some (option_map f o) ≡ is_some o
argument_before f (Some x) = refl
argument_before f None = refl

-- an action leaves this as it is
whole_before : (a : Action) (d : ℕ) (t : Term) → IsWhole (act_term a d t) → IsWhole t
whole_before a d (VariableTerm v) h = tt
whole_before a d (LiteralTerm l) h = tt
whole_before a d (FunctionTerm s c t) h = whole_before a (suc d) t h
whole_before a d (TypeFunctionTerm s t) h = whole_before a (suc d) t h
whole_before a d (BoxTerm v) h = tt
whole_before a d (Application v w) h = tt
whole_before a d (TypeApplication v s) h = tt
whole_before a d (Unboxing o v) h = there_before a d o h
whole_before a d (Let n s t) h = (ordinary_before a d n h.0, whole_before a d s h.1, whole_before a (suc d) t h.2)
whole_before a d (Primitive o v w) h = tt
whole_before a d (Conditional n v s t) h = (given_before a d n h.0, whole_before a d s h.1, whole_before a d t h.2)
whole_before a d (Repetition v w) h = tt
whole_before a d (Operation o v x) h = h ∙ argument_before (a.variable d) x
whole_before a d (Boundary s t) h = whole_before a (suc d) t h
whole_before a d (Leave s c v w) h = tt

ordinary_note : (n : Note) (s : Shape) (c : Set) → IsNoteOf n s c → IsOrdinary n
ordinary_note Absent s c h = tt
ordinary_note (Written s' c') s c h = tt
ordinary_note (Own s') s c h = h

takes_one : (o : Op) (b : Base) → base_taken o ≡ Some b → takes_argument o ≡ true
takes_one operations.Print b e = refl
takes_one operations.Say b e = refl
takes_one operations.Read b e = cc
takes_one operations.Write b e = refl
takes_one operations.Tick b e = cc

takes_none : (o : Op) → base_taken o ≡ None → takes_argument o ≡ false
takes_none operations.Print e = cc
takes_none operations.Say e = cc
takes_none operations.Read e = refl
takes_none operations.Write e = cc
takes_none operations.Tick e = refl

valid_whole : (d : Derivation) (g : Context) (t : Term) → IsValidTyping g t d → IsWhole t
valid_whole (Node t-var NoPremise claim) g t h = subst IsWhole (sym h.3) tt
valid_whole (Node t-lit NoPremise claim) g t h = subst IsWhole (sym h.1) tt
valid_whole (Node t-abs (one p) claim) g t h =
    subst IsWhole (sym h.5) (whole_before (opening (length g)) zero h.4 (valid_whole p _ _ h.7))
valid_whole (Node t-tabs (one p) claim) g t h =
    subst IsWhole (sym h.4) (whole_before (opening (length g)) zero h.3 (valid_whole p _ _ h.6))
valid_whole (Node t-app (two p q) claim) g t h = subst IsWhole (sym h.7) tt
valid_whole (Node t-tapp (two p q) claim) g t h = subst IsWhole (sym h.6) tt
valid_whole (Node t-box (one p) claim) g t h = subst IsWhole (sym h.3) tt
valid_whole (Node t-unbox (one p) claim) g t h = subst IsWhole (sym h.4) tt
valid_whole (Node t-let (two p q) claim) g t h =
    subst IsWhole (sym h.7) (
      ordinary_note h.0 h.3 h.4 h.10,
      valid_whole p _ _ h.8,
      whole_before (opening (length g)) zero h.2 (valid_whole q _ _ h.11),
    )
valid_whole (Node t-prim (two p q) claim) g t h = subst IsWhole (sym h.5) tt
valid_whole (Node t-if (three p q r) claim) g t h =
    subst IsWhole (sym h.6) (tt, valid_whole q _ _ h.9, valid_whole r _ _ h.11)
valid_whole (Node t-repeat (two p q) claim) g t h = subst IsWhole (sym h.4) tt
valid_whole (Node t-op (two p q) claim) g t h = subst IsWhole (sym h.6) (takes_one h.0 h.3 h.9)
valid_whole (Node t-op (one p) claim) g t h = subst IsWhole (sym h.3) (takes_none h.0 h.6)
valid_whole (Node t-boundary (one p) claim) g t h =
    subst IsWhole (sym h.2) (whole_before (opening (length g)) zero h.1 (valid_whole p _ _ h.4))
valid_whole (Node t-exit (two p q) claim) g t h = subst IsWhole (sym h.6) tt
valid_whole (Node t-sub (two p q) claim) g t h = valid_whole p g t h.4
valid_whole _ g t h = absurd h

none_at : (d : ℕ) (s : Shape) → Meets without_holes d s → HasNoHole s
none_at d s k = closed_to zero s (closed_from d s k)

given_note : (d : ℕ) (n : Note) → IsGiven n → MeetsInNote without_holes d n → IsWrittenNote n
given_note d Absent h k = h
given_note d (Written s c) h k = (none_at d s k.0, k.1)
given_note d (Own s) h k = h

optional_note : (d : ℕ) (n : Note) → IsOrdinary n → MeetsInNote without_holes d n → IsOptionalNote n
optional_note d Absent h k = tt
optional_note d (Written s c) h k = (none_at d s k.0, k.1)
optional_note d (Own s) h k = h

there_set : (d : ℕ) (o : Option Set) → IsThere o → MeetsInOptionalSet without_holes d o → IsWrittenSet o
there_set d (Some c) h k = k
there_set d None h k = h

written_from : (t : Term) (d : ℕ) → IsWhole t → MeetsInTerm without_holes d t → HasWrittenLiterals t → IsWritten t
written_from (VariableTerm v) d h k l = tt
written_from (LiteralTerm x) d h k l = l
written_from (FunctionTerm s c t) d h k l = (none_at d s k.0, k.1, written_from t (suc d) h k.2 l)
written_from (TypeFunctionTerm s t) d h k l = (none_at d s k.0, written_from t (suc d) h k.1 l)
written_from (BoxTerm v) d h k l = tt
written_from (Application v w) d h k l = tt
written_from (TypeApplication v s) d h k l = none_at d s k.1
written_from (Unboxing o v) d h k l = there_set d o h k.0
written_from (Let n s t) d h k l =
    (optional_note d n h.0 k.0, written_from s d h.1 k.1 l.0, written_from t (suc d) h.2 k.2 l.1)
written_from (Primitive o v w) d h k l = tt
written_from (Conditional n v s t) d h k l =
    (given_note d n h.0 k.0, written_from s d h.1 k.2 l.0, written_from t d h.2 k.3 l.1)
written_from (Repetition v w) d h k l = tt
written_from (Operation o v a) d h k l = h
written_from (Boundary s t) d h k l = (none_at d s k.0, written_from t (suc d) h k.1 l)
written_from (Leave s c v w) d h k l = (none_at d s k.0, k.1)

pub valid_are_whole : ValidTermsAreWhole
valid_are_whole context term derivation valid none literals =
    written_from term zero (valid_whole derivation context term valid) none literals
