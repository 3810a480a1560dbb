-- Terms as they are read among the entries of a context.
use Rattle.std.proofs.Common.{◌≡◌, ℕ, zero, suc, ◌-◌, ◌≤◌, ◌∷◌, [], true, length, refl, sym, ap, ◌∙◌, subst, arith}
use Rattle.cc_capture.specs.declared.var.Var.{Var}
use Rattle.cc_capture.specs.declared.var.Var.TheVariants.{Bound, Free}
use Rattle.cc_core.specs.Contexts.{Bind, Context}
use Rattle.cc_core.specs.Reading.{read_variable, reading, read_term}
use Rattle.cc_core.specs.Substitution.{opened_term}
use Rattle.cc_core.specs.Terms.{Term}
use Rattle.cc_core.specs.Traversal.{act_term}
use Rattle.cc_core.specs.WellFormed.{kinds_of, is_well_formed_term}
use Rattle.cc_core.proofs.Moving.{same_moves, moving-identity}
use Rattle.cc_core.proofs.ReadingAndWriting.{read_variable-past, opened_term-read, read_term-still}
use Rattle.cc_core.proofs.Sorts.{TermSort, acted-keeping}
use Rattle.cc_core.proofs.WellFormedness.{well_formed-bound_within}
use Rattle.cc_derivation.specs.Rows.{Place, TypeOf, under}

-- among no entries each term is read as it is
not_read : (d : ℕ) (v : Var) → read_variable 0 d v ≡ v
not_read d (Bound i) = read_variable-past 0 d i (omega arith)
not_read d (Free p) = refl

pub read_none : (t : Term) → read_term 0 t ≡ t
read_none t =
    ap (λ f. act_term f 0 t) (same_moves (read_variable 0) (λ d v. v) not_read)
    ∙ ap (λ f. act_term f 0 t) moving-identity ∙ acted-keeping TermSort 0 t

-- a well-formed term has no index that a binder outside of it would have
pub read_well_formed : (n : ℕ) (g : Context) (t : Term) → is_well_formed_term (kinds_of g) [] t ≡ true → read_term n t ≡ t
read_well_formed n g t h = read_term-still n 0 t (well_formed-bound_within TermSort g t h)

-- A body that is read together with its binder's entry stands where the body does that is opened at that entry.
pub under_read : (n m : ℕ) (g inner : Context) (entry : Bind) (t t' : Term) → inner ≡ entry ∷ g → m ≡ length inner → t' ≡ t
    → n ≡ length g → TypeOf inner (read_term m t') ≡ under g entry (act_term (reading n) 1 t)
under_read n m g inner entry t t' grown counted same all =
    (λ i. TypeOf (grown i) (read_term m (same i)))
    ∙ ap (λ k. TypeOf (entry ∷ g) (read_term k t)) (counted ∙ ap length grown)
    ∙ ap (TypeOf (entry ∷ g)) (sym (opened_term-read (length g) t))
    ∙ ap (λ k. TypeOf (entry ∷ g) (opened_term (length g) (act_term (reading k) 1 t))) (sym all)

-- So does the body that is opened, which is read as it is.
pub under_opened : (g inner : Context) (entry : Bind) (t t' : Term) → inner ≡ entry ∷ g → t' ≡ opened_term (length g) t
    → TypeOf inner (read_term 0 t') ≡ under g entry t
under_opened g inner entry t t' grown opened = λ i. TypeOf (grown i) ((read_none t' ∙ opened) i)
