-- Lines that fit one after the other, with what is written for them.
use Rattle.std.proofs.Common.{◌≡◌, ℕ, List, [], ◌∷◌, ◌++◌, refl, sym, ap, subst, ◌∙◌, append_assoc, append-nil}
use Rattle.cc_certificate_writing.specs.Certificates.{line, lines_text as texts_together}
use Rattle.cc_certificate_text.specs.Certificates.{Line, Stage, Fits, AllFit, line_text, lines_text, behind_line, behind_lines}

-- From one stage to another the lines fit and have these texts.
pub record Leads (stage : Stage) (lines : List Line) (texts : List (List ℕ)) (after : Stage) : Type 0 where
  pub fit : AllFit stage lines
  pub written : lines_text stage lines ≡ texts_together texts
  pub behind : behind_lines stage lines ≡ after

pub no_line : (stage : Stage) → Leads stage [] [] stage
no_line stage = record { fit = tt; written = refl; behind = refl }

pub one_line : (stage : Stage) (l : Line) (text : List ℕ) (after : Stage) → Fits stage l → line_text stage l ≡ text
    → behind_line stage l ≡ after → Leads stage (l ∷ []) (text ∷ []) after
one_line stage l text after fits written behind = record {
  fit = (fits, tt);
  written = ap line written ∙ sym (append-nil (line text));
  behind = behind;
}

fit_together : (stage : Stage) (ls ks : List Line) → AllFit stage ls → AllFit (behind_lines stage ls) ks
    → AllFit stage (ls ++ ks)
fit_together stage [] ks first second = second
fit_together stage (l ∷ ls) ks first second = (first.0, fit_together (behind_line stage l) ls ks first.1 second)

behind_together : (stage : Stage) (ls ks : List Line)
    → behind_lines stage (ls ++ ks) ≡ behind_lines (behind_lines stage ls) ks
behind_together stage [] ks = refl
behind_together stage (l ∷ ls) ks = behind_together (behind_line stage l) ls ks

written_together : (stage : Stage) (ls ks : List Line)
    → lines_text stage (ls ++ ks) ≡ lines_text stage ls ++ lines_text (behind_lines stage ls) ks
written_together stage [] ks = refl
written_together stage (l ∷ ls) ks =
    ap (λ t. line_text stage l ++ 10 ∷ t) (written_together (behind_line stage l) ls ks)
    ∙ sym (append_assoc (line_text stage l) (10 ∷ lines_text (behind_line stage l) ls)
    (lines_text (behind_lines (behind_line stage l) ls) ks))

texts_append : (a b : List (List ℕ)) → texts_together (a ++ b) ≡ texts_together a ++ texts_together b
texts_append [] b = refl
texts_append (x ∷ a) b =
    ap (λ t. line x ++ t) (texts_append a b) ∙ sym (append_assoc (line x) (texts_together a) (texts_together b))

pub and_then : (stage middle after : Stage) (ls ks : List Line) (ts us : List (List ℕ)) → Leads stage ls ts middle
    → Leads middle ks us after → Leads stage (ls ++ ks) (ts ++ us) after
and_then stage middle after ls ks ts us first second = record {
  fit = fit_together stage ls ks first.fit (subst (λ s. AllFit s ks) (sym first.behind) second.fit);
  written = written_together stage ls ks
      ∙ ((λ i. first.written i ++ lines_text (first.behind i) ks)
      ∙ (ap (λ t. texts_together ts ++ t) second.written ∙ sym (texts_append ts us)));
  behind = behind_together stage ls ks ∙ (ap (λ s. behind_lines s ks) first.behind ∙ second.behind);
}

pub leads_to : (stage after other : Stage) (ls : List Line) (ts : List (List ℕ)) → after ≡ other
    → Leads stage ls ts after → Leads stage ls ts other
leads_to stage after other ls ts same leads = record {
  fit = leads.fit;
  written = leads.written;
  behind = leads.behind ∙ same;
}
