-- How what is in sets arrives in those that they flow into.
use Rattle.std.specs.Prelude.{◌⊎◌, ℕ, ◌+◌, ◌*◌, ◌<◌, ◌≤◌, cond, List, [], ◌∷◌, length}
use Rattle.std.specs.List.{Contains}
use Rattle.cc_capture.specs.declared.var.Elem.{Elem}
use Rattle.cc_capture.specs.declared.var.Elem.TheVariants.{Hole}
use Rattle.cc_capture.specs.Sets.{Set, Member, contains}
use Rattle.cc_solve.specs.Adding.{AddsThose}
use Rattle.cc_solve.specs.Solutions.{filling_of}

-- An element arrives in a set: it is there at the start, or it arrives in one that flows into it. A set flows into
-- those whose holes are in its flow.
pub data Arrives (flows start : ℕ → Set) : ℕ → Elem → Type 0 where
  there : {at : ℕ} {e : Elem} → Member e (start at) → Arrives flows start at e
  onward : {from at : ℕ} {e : Elem} → Member (Hole at) (flows from) → Arrives flows start from e
      → Arrives flows start at e

-- how many of the elements the set does not have
unfoldable pub lacking : List Elem → Set → ℕ
lacking [] set = 0
lacking (e ∷ rest) set = cond (contains e set) 0 1 + lacking rest set

-- how many the sets do not have together
unfoldable pub all_lacking : List Elem → List Set → ℕ
all_lacking elements [] = 0
all_lacking elements (set ∷ rest) = lacking elements set + all_lacking elements rest

-- each member of the sets is among the elements
abbrev pub AreAmong : List Elem → List Set → Type 0
AreAmong elements sets = (at : ℕ) (e : Elem) → Member e (filling_of sets at) → Contains elements e

-- What is in one set was added to those whose holes the fact holds of. Those that grew are queued.
pub record Spreads (from : ℕ) (Fact : Elem → Type 0) (old new : List Set) (before after : List ℕ) : Type 0 where
  pub adds : AddsThose (λ at e. Fact (Hole at) × Member e (filling_of old from)) old new
  pub queue_kept : (at : ℕ) → Contains before at → Contains after at
  pub queue_within : (at : ℕ) → Contains after at → Contains before at ⊎ (at < length new)
  pub grown : (at : ℕ) → Contains after at
      ⊎ ((e : Elem) → Member e (filling_of new at) → Member e (filling_of old at))
  pub less : (elements : List Elem) → AreAmong elements old
      → 2 * all_lacking elements new + length after ≤ 2 * all_lacking elements old + length before
