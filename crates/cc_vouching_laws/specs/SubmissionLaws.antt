-- The laws of submissions.
use Rattle.std.specs.Prelude.{◌≡◌, ℕ, List}
use Rattle.cc_vouching.specs.Submissions.{Submission, IsSubmission}

-- bytes are one submission at most
abbrev pub BytesAreOneSubmission : Type 0
BytesAreOneSubmission =
    (bytes : List ℕ) (a b : Submission) → IsSubmission bytes a → IsSubmission bytes b → a ≡ b
