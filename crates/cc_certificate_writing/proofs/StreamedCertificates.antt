-- The lines of a certificate that are written in pieces, one behind the other.
use Rattle.std.proofs.Common.{◌≡◌, ℕ, ◌+◌, ◌<◌, ◌≤◌, List, [], ◌∷◌, ◌++◌, length, map, reverse, take, drop, codes, Option, Result, refl, sym, ap, ◌∙◌, subst, append_assoc, take-append-drop}
use Rattle.std.proofs.lemmas.List.{map_push, reverse-append}
use Rattle.cc_core.specs.Contexts.{Context, lookup}
use Rattle.cc_core.specs.Derivations.{Derivation}
use Rattle.cc_core.specs.Terms.{Term}
use Rattle.cc_io.specs.declared.whole.WriteAll.{WriteAll}
use Rattle.cc_io.specs.Pieces.{IsPassedOn, Streams}
use Rattle.cc_io.specs.Wholes.{AppendsFront}
use Rattle.cc_io.proofs.PassedPieces.{passed_both, stopped_first, stopped_second, streams_both}
use Rattle.cc_print.specs.TermTexts.{term_text}
use Rattle.cc_certificate_writing.specs.Certificates.{line, lines_behind, lines_at, bind_lines, node_lines, certificate_lines}
use Rattle.cc_certificate_writing.specs.declared.nodes.Waiting.{Waiting as DeclaredWaiting}
use Rattle.cc_certificate_writing.specs.WaitingLines.{Progress, TakesTurn, in_turn, waiting_of, waiting_lines, written}
use Rattle.cc_certificate_writing.proofs.Lines.{lines-append, first_binds, all_binds}

-- the lines of the entries of a context
module _ (front : List ℕ) (names : List (List ℕ)) (g : Context) (p : ℕ) where
  module _ (low : p < length g) where
    binds_up_to : lines_behind front (take (p + 1) (bind_lines names g))
        ≡ lines_behind front (take p (bind_lines names g)) ++ lines_behind front (lines_at names p (lookup g p))
    binds_up_to =
        ap (lines_behind front) (first_binds names g p low)
        ∙ lines-append front (take p (bind_lines names g)) (lines_at names p (lookup g p))

    binds_behind : lines_behind front (bind_lines names g)
        ≡ lines_behind front (take p (bind_lines names g))
        ++ (lines_behind front (lines_at names p (lookup g p)) ++ lines_behind front (drop (p + 1) (bind_lines names g)))
    binds_behind =
        ap (lines_behind front) (sym (take-append-drop (p + 1) (bind_lines names g)))
        ∙ lines-append front (take (p + 1) (bind_lines names g)) (drop (p + 1) (bind_lines names g))
        ∙ ap (λ t. t ++ lines_behind front (drop (p + 1) (bind_lines names g))) binds_up_to
        ∙ append_assoc (lines_behind front (take p (bind_lines names g))) (lines_behind front (lines_at names p (lookup g p)))
        (lines_behind front (drop (p + 1) (bind_lines names g)))

    module _ (a b c : Option (List ℕ)) (before between : List ℕ)
        (passed : IsPassedOn a b before between (lines_behind front (take p (bind_lines names g)))) where
      pub binds_more : (waiting : List ℕ) → IsPassedOn b c between waiting (lines_behind front (lines_at names p (lookup g p)))
          → IsPassedOn a c before waiting (lines_behind front (take (p + 1) (bind_lines names g)))
      binds_more waiting more =
          subst (IsPassedOn a c before waiting) (sym binds_up_to) (passed_both a b c before between waiting _ _ passed more)

      pub binds_stopped : AppendsFront b c (between ++ lines_behind front (lines_at names p (lookup g p)))
          → AppendsFront a c (before ++ lines_behind front (bind_lines names g))
      binds_stopped stopped =
          subst (λ t. AppendsFront a c (before ++ t)) (sym binds_behind)
          (stopped_second a b c before between between _ _ passed (stopped_first b c between _ _ stopped))

  pub binds_whole : length g ≤ p → (a b : Option (List ℕ)) (before waiting : List ℕ)
      → IsPassedOn a b before waiting (lines_behind front (take p (bind_lines names g)))
      → IsPassedOn a b before waiting (lines_behind front (bind_lines names g))
  binds_whole whole a b before waiting passed =
      subst (IsPassedOn a b before waiting)
      (all_binds front names g p [] (lines_behind front (take p (bind_lines names g))) whole refl) passed

-- four texts, one behind the other
module _ (first second third last whole : List ℕ) (is : whole ≡ first ++ (second ++ (third ++ last))) (a : Option (List ℕ)) (before : List ℕ) where
  pub stopped_in_first : (b : Option (List ℕ)) → AppendsFront a b (before ++ first) → AppendsFront a b (before ++ whole)
  stopped_in_first b stopped =
      subst (λ t. AppendsFront a b (before ++ t)) (sym is) (stopped_first a b before first (second ++ (third ++ last)) stopped)

  module _ (b : Option (List ℕ)) (behind_first : List ℕ) (p : IsPassedOn a b before behind_first first) where
    pub stopped_in_second : (c : Option (List ℕ)) → AppendsFront b c (behind_first ++ second) → AppendsFront a c (before ++ whole)
    stopped_in_second c stopped =
        subst (λ t. AppendsFront a c (before ++ t)) (sym is)
        (stopped_second a b c before behind_first behind_first first (second ++ (third ++ last)) p
        (stopped_first b c behind_first second (third ++ last) stopped))

    module _ (c : Option (List ℕ)) (behind_second : List ℕ) (q : IsPassedOn b c behind_first behind_second second) where
      pub stopped_in_third : (d : Option (List ℕ)) → AppendsFront c d (behind_second ++ third) → AppendsFront a d (before ++ whole)
      stopped_in_third d stopped =
          subst (λ t. AppendsFront a d (before ++ t)) (sym is)
          (stopped_second a b d before behind_first behind_first first (second ++ (third ++ last)) p
          (stopped_second b c d behind_first behind_second behind_second second (third ++ last) q
          (stopped_first c d behind_second third last stopped)))

      pub streams_four : {T : Type 0} (d e : Option (List ℕ)) (behind_third waiting : List ℕ) (result : Result T WriteAll)
          → IsPassedOn c d behind_second behind_third third → Streams d e behind_third waiting result last
          → Streams a e before waiting result whole
      streams_four d e behind_third waiting result r streams =
          subst (Streams a e before waiting result) (sym is)
          (streams_both a b e before behind_first waiting first (second ++ (third ++ last)) result p
          (streams_both b c e behind_first behind_second waiting second (third ++ last) result q
          (streams_both c d e behind_second behind_third waiting third last result r streams)))

-- the lines of a certificate are four texts
pub certificate_in_four : (front : List ℕ) (names : List (List ℕ)) (g : Context) (term : Term) (derivation : Derivation)
    → lines_behind front (certificate_lines names g term derivation)
    ≡ line (front ++ codes "cert 1") ++ (lines_behind front (bind_lines names g)
    ++ (line (front ++ (codes "term " ++ term_text names 0 term)) ++ lines_behind front (node_lines names 0 0 derivation)))
certificate_in_four front names g term derivation =
    ap (λ t. line (front ++ codes "cert 1") ++ t)
    (lines-append front (bind_lines names g) ((codes "term " ++ term_text names 0 term) ∷ node_lines names 0 0 derivation))

-- what waits next is the last of what waits
next_turn : (turns rest : List DeclaredWaiting) (next : DeclaredWaiting) → turns ≡ rest ++ next ∷ []
    → in_turn turns ≡ waiting_of next ∷ in_turn rest
next_turn turns rest next is =
    ap in_turn is ∙ ap reverse (map_push waiting_of rest next) ∙ reverse-append (map waiting_of rest) (waiting_of next ∷ [])

-- a turn that was taken leaves what is written in the end
pub turn_taken : (front : List ℕ) (names same_names : List (List ℕ)) → names ≡ same_names → (text : List ℕ) (number : ℕ) (numbers : List ℕ)
    (turns rest : List DeclaredWaiting) (next : DeclaredWaiting) → turns ≡ rest ++ next ∷ [] → (new : Progress)
    → TakesTurn front names (record { text = text; number = number; numbers = numbers; waiting = waiting_of next ∷ in_turn rest }) new
    → written front same_names (record { text = text; number = number; numbers = numbers; waiting = in_turn turns })
    ≡ new.text ++ lines_behind front (waiting_lines same_names new.number new.numbers new.waiting)
turn_taken front names same_names same text number numbers turns rest next is new turn =
    (λ i. written front same_names (record { text = text; number = number; numbers = numbers; waiting = next_turn turns rest next is i }))
    ∙ subst (λ ns. written front ns (record { text = text; number = number; numbers = numbers; waiting = waiting_of next ∷ in_turn rest }) ≡ written front ns new)
    same turn.same
