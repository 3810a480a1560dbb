-- A summary that is written from its parts.
use Rattle.std.proofs.Common.{◌≡◌, ℕ, Bool, List, [], ◌∷◌, ◌++◌, length, ap, ◌∙◌}
use Rattle.std.specs.Prelude.{codes}
use Rattle.std.specs.Fmt.{decimal}
use Rattle.std.proofs.lemmas.List.{append_assoc}
use Rattle.cc_words.specs.Lines.{Line}
use Rattle.cc_summary.specs.Summaries.{counted, line_count, last_line, without_indent, summary_text, IsTally}

append-six : (a b c d e f : List ℕ) → a ++ b ++ c ++ d ++ e ++ f ≡ a ++ (b ++ (c ++ (d ++ (e ++ f))))
append-six a b c d e f =
    append_assoc (a ++ b ++ c ++ d) e f ∙ append_assoc (a ++ b ++ c) d (e ++ f) ∙ append_assoc (a ++ b) c (d ++ (e ++ f))
    ∙ append_assoc a b (c ++ (d ++ (e ++ f)))

-- the head of a summary, then the line, then a line feed
pub summary_text-parts : (workload : ℕ) (text : List ℕ) (lines bytes : ℕ) (last : Line) (ended : Bool)
    → (head first line both told : List ℕ) → IsTally text lines bytes last ended
    → head ≡ codes "workload " ++ (decimal workload ++ (codes "\nlines " ++ (decimal lines ++ (codes "\nbytes " ++ (decimal bytes ++ codes "\nlast ")))))
    → first ≡ head → line ≡ without_indent last → both ≡ first ++ line → told ≡ both ++ 10 ∷ [] → summary_text workload text ≡ told
summary_text-parts workload text lines bytes last ended head first line both told is head_is first_is line_is both_is told_is =
    rw (told_is, both_is, first_is, line_is, head_is, is.0, is.1, is.2)
    (ap (λ part. codes "workload " ++ part ++ without_indent (last_line text) ++ 10 ∷ [])
    (append-six (decimal workload) (codes "\nlines ") (decimal (counted (line_count text))) (codes "\nbytes ")
    (decimal (counted (length text))) (codes "\nlast ")))
