-- What a term captures, as it is read: the same among entries as what the term itself captures.
use Rattle.std.proofs.Common.{◌≡◌, ℕ, zero, suc, ◌-◌, inl, inr, refl, sym, ap, ◌∙◌, arith}
use Rattle.std.proofs.lemmas.Bool.{cases_lt}
use Rattle.cc_capture.specs.declared.var.Var.{Var}
use Rattle.cc_capture.specs.declared.var.Var.TheVariants.{Bound, Free}
use Rattle.cc_capture.specs.declared.var.Elem.TheVariants.{Var as Variable}
use Rattle.cc_core.specs.Captured.{outside, captured_variables}
use Rattle.cc_core.specs.Reading.{read_variable, reading, read_set, read_term}
use Rattle.cc_core.specs.Substitution.{single}
use Rattle.cc_core.specs.Terms.{Term}
use Rattle.cc_core.proofs.CapturedActions.{MovesOutwards, PassesBinders, PassesBinders-moves, captured_variables-act}
use Rattle.cc_core.proofs.ReadingAndWriting.{read_variable-inside, read_variable-entry, read_variable-past}

reading_outwards : (n : ℕ) → MovesOutwards (read_variable n)
reading_outwards n = record { newest = newest; newest_stays = λ d. read_variable-inside n (suc d) 0 (omega arith); index = index; position = λ d p. refl }
  where
    newest : (d : ℕ) (v : Var) → read_variable n (suc d) v ≡ Bound zero → v ≡ Bound zero
    newest d (Free p) e = cc
    newest d (Bound i) e =
        elim (cases_lt i (suc d)) as (λ _. Bound i ≡ Bound zero) [
          | inl inside ↦ sym (read_variable-inside n (suc d) i inside) ∙ e
          | inr beyond ↦
              elim (cases_lt (i - suc d) n) as (λ _. Bound i ≡ Bound zero) [
                | inl within ↦ let clash : Free (n - suc (i - suc d)) ≡ Bound zero = sym (read_variable-entry n (suc d) i beyond within) ∙ e in cc
                | inr past ↦ sym (read_variable-past n (suc d) i past) ∙ e
              ]
        ]

    index : (d i : ℕ) → outside (Variable (read_variable n (suc d) (Bound (suc i)))) ≡ single (Variable (read_variable n d (Bound i)))
    index d i =
        elim (cases_lt i d) as (λ _. outside (Variable (read_variable n (suc d) (Bound (suc i)))) ≡ single (Variable (read_variable n d (Bound i)))) [
          | inl inside ↦
              ap (λ v. outside (Variable v)) (read_variable-inside n (suc d) (suc i) (omega arith)) ∙ ap (λ v. single (Variable v)) (sym (read_variable-inside n d i inside))
          | inr beyond ↦
              let same : suc i - suc d ≡ i - d = omega arith in
              elim (cases_lt (i - d) n) as (λ _. outside (Variable (read_variable n (suc d) (Bound (suc i)))) ≡ single (Variable (read_variable n d (Bound i)))) [
                | inl within ↦
                    ap (λ v. outside (Variable v)) (read_variable-entry n (suc d) (suc i) (omega arith) (omega arith))
                    ∙ ap (λ k. single (Variable (Free (n - suc k)))) same ∙ ap (λ v. single (Variable v)) (sym (read_variable-entry n d i beyond within))
                | inr past ↦
                    ap (λ v. outside (Variable v)) (read_variable-past n (suc d) (suc i) (omega arith)) ∙ ap (λ v. single (Variable v)) (sym (read_variable-past n d i past))
              ]
        ]

PassesBinders-reading : (n : ℕ) → PassesBinders (reading n)
PassesBinders-reading n = PassesBinders-moves (reading n) (read_variable n) (λ d x. refl) (λ d v. refl) (reading_outwards n)

pub captured_variables-read : (n : ℕ) (t : Term) → captured_variables (read_term n t) ≡ read_set n (captured_variables t)
captured_variables-read n t = captured_variables-act (reading n) (PassesBinders-reading n) 0 t
