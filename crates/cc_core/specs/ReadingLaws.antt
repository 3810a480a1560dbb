-- The laws of reading and writing, and of actions under one binder more.
use Rattle.std.specs.Prelude.{◌≡◌, ℕ, zero, suc, ◌+◌, ◌-◌}
use Rattle.cc_core.specs.Shapes.{CapturingType}
use Rattle.cc_core.specs.Terms.{Term}
use Rattle.cc_core.specs.Traversal.{Action, act_type, act_term, shifted}
use Rattle.cc_core.specs.Substitution.{opened_type, opened_term}
use Rattle.cc_core.specs.Occurrences.{Condition, MeetsInType, MeetsInTerm, on_variables, bound_within, HasBinder}
use Rattle.cc_core.specs.Occurrences.{IsPositionBelow}
use Rattle.cc_core.specs.Reading.{reading, read_type, read_term, written_type, written_term}

-- acting under one binder more is acting with the shifted action
abbrev pub ShiftedActionsActDeeperOnTypes : Type 0
ShiftedActionsActDeeperOnTypes =
    (action : Action) (depth : ℕ) (type : CapturingType)
    → act_type action (suc depth) type ≡ act_type (shifted action) depth type

-- the same of terms
abbrev pub ShiftedActionsActDeeperOnTerms : Type 0
ShiftedActionsActDeeperOnTerms =
    (action : Action) (depth : ℕ) (term : Term)
    → act_term action (suc depth) term ≡ act_term (shifted action) depth term

-- What is read under its binder and then opened at the position that comes next is what is read with the binder's
-- entry.
abbrev pub OpeningAReadBodyReadsItsEntryInTypes : Type 0
OpeningAReadBodyReadsItsEntryInTypes =
    (entries : ℕ) (type : CapturingType)
    → opened_type entries (act_type (reading entries) 1 type) ≡ read_type (suc entries) type

-- the same of terms
abbrev pub OpeningAReadBodyReadsItsEntryInTerms : Type 0
OpeningAReadBodyReadsItsEntryInTerms =
    (entries : ℕ) (term : Term)
    → opened_term entries (act_term (reading entries) 1 term) ≡ read_term (suc entries) term

-- what has no open index is read as it is
abbrev pub ReadingLeavesTypesWithoutOpenIndex : Type 0
ReadingLeavesTypesWithoutOpenIndex =
    (entries : ℕ) (type : CapturingType) → MeetsInType (bound_within 0) zero type → read_type entries type ≡ type

-- the same of terms
abbrev pub ReadingLeavesTermsWithoutOpenIndex : Type 0
ReadingLeavesTermsWithoutOpenIndex =
    (entries : ℕ) (term : Term) → MeetsInTerm (bound_within 0) zero term → read_term entries term ≡ term

-- reading undoes writing where no index is open
abbrev pub ReadingUndoesWritingOfTypes : Type 0
ReadingUndoesWritingOfTypes =
    (root entries : ℕ) (type : CapturingType) → MeetsInType (bound_within 0) zero type
    → read_type entries (written_type root entries type) ≡ type

-- the same of terms
abbrev pub ReadingUndoesWritingOfTerms : Type 0
ReadingUndoesWritingOfTerms =
    (root entries : ℕ) (term : Term) → MeetsInTerm (bound_within 0) zero term
    → read_term entries (written_term root entries term) ≡ term

-- Each index counts a binder inside, or one of those outside that put the entries from the root on; and each free
-- position is below the root.
abbrev pub of_the_term : ℕ → ℕ → Condition
of_the_term root entries =
    on_variables (λ depth variable. HasBinder (depth + (entries - root)) variable × IsPositionBelow root variable)

-- writing undoes reading of what stands in such a term
abbrev pub WritingUndoesReadingOfTypes : Type 0
WritingUndoesReadingOfTypes =
    (root entries : ℕ) (type : CapturingType) → MeetsInType (of_the_term root entries) zero type
    → written_type root entries (read_type entries type) ≡ type

-- the same of terms
abbrev pub WritingUndoesReadingOfTerms : Type 0
WritingUndoesReadingOfTerms =
    (root entries : ℕ) (term : Term) → MeetsInTerm (of_the_term root entries) zero term
    → written_term root entries (read_term entries term) ≡ term
