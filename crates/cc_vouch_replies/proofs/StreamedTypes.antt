-- Three texts that are written one behind the other.
use Rattle.std.proofs.Common.{◌≡◌, ℕ, List, ◌++◌, Option, Result, sym, subst, append_assoc}
use Rattle.cc_io.specs.declared.whole.WriteAll.{WriteAll}
use Rattle.cc_io.specs.Pieces.{IsPassedOn, Streams}
use Rattle.cc_io.specs.Wholes.{AppendsFront}
use Rattle.cc_io.proofs.PassedPieces.{stopped_first, stopped_second, streams_both}

module _ (first second third whole : List ℕ) (is : whole ≡ first ++ (second ++ third)) (a b : Option (List ℕ)) (before : List ℕ) where
  pub stopped_in_first : AppendsFront a b (before ++ first) → AppendsFront a b (before ++ whole)
  stopped_in_first stopped =
      subst (λ t. AppendsFront a b (before ++ t)) (sym is) (stopped_first a b before first (second ++ third) stopped)

  module _ (between : List ℕ) (passed : IsPassedOn a b before between first) where
    pub stopped_in_second : (c : Option (List ℕ)) → AppendsFront b c (between ++ second) → AppendsFront a c (before ++ whole)
    stopped_in_second c stopped =
        subst (λ t. AppendsFront a c (before ++ t)) (sym is)
        (stopped_second a b c before between between first (second ++ third) passed (stopped_first b c between second third stopped))

    pub streams_three : {T : Type 0} (c d : Option (List ℕ)) (later waiting : List ℕ) (result : Result T WriteAll)
        → IsPassedOn b c between later second → Streams c d later waiting result third → Streams a d before waiting result whole
    streams_three c d later waiting result passed_second streams =
        subst (Streams a d before waiting result) (sym is)
        (streams_both a b d before between waiting first (second ++ third) result passed
        (streams_both b c d between later waiting second third result passed_second streams))

-- the line of a definition: its front, its type, and a line feed
pub line_in_three : (space name colon type feed : List ℕ) → (space ++ (name ++ colon ++ type)) ++ feed ≡ (space ++ name ++ colon) ++ (type ++ feed)
line_in_three space name colon type feed = simp append_assoc
