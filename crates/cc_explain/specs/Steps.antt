-- The first steps of the shortest paths, as the code finds them: from each definition in turn.
use Rattle.std.specs.Prelude.{◌≡◌, ℕ, ◌+◌, ◌<◌, ◌≤◌, nat_le, if◌then◌else◌, List, [], ◌∷◌, length, slice_index_or}
use Rattle.std.specs.Prelude.{Option, Some, None, option_map}
use Rattle.cc_explain.specs.Chains.{LeadsAlong}
use Rattle.cc_explain.specs.Entries.{Entries, targets_of}
use Rattle.cc_explain.specs.Paths.{IsFirstPath}
use Rattle.cc_explain.specs.Targets.{rank, same_target}
use Rattle.cc_explain.specs.declared.step.Step.{Step}
use Rattle.cc_explain.specs.declared.target.Target.{Target}
use Rattle.cc_explain.specs.declared.target.Target.TheVariants.{Definition, Device, Cap}

-- how many steps the path from a target has, by the first steps of definitions
abbrev pub known_length : List (Option Step) → Target → Option ℕ
known_length steps (Definition number) = option_map (λ step. step.length) (slice_index_or steps number None)
known_length steps (Device number) = None
known_length steps Cap = None

-- the same; there are none from the target that is looked for
abbrev pub length_from : List (Option Step) → Target → Target → Option ℕ
length_from steps to target = if same_target target to then Some 0 else known_length steps target

-- where the first step leads
abbrev pub next_of : List (Option Step) → Target → Option Target
next_of steps (Definition number) = option_map (λ step. step.next) (slice_index_or steps number None)
next_of steps (Device number) = None
next_of steps Cap = None

-- the step with the shorter path, the first one where both are as short
abbrev pub shorter_of : Option Step → Step → Option Step
shorter_of None step = Some step
shorter_of (Some best) step = if nat_le best.length step.length then Some best else Some step

-- the best step, where one may also go to the target, from which there are so many
abbrev pub nearer : Option Step → Target → Option ℕ → Option Step
nearer best target None = best
nearer best target (Some length) = shorter_of best (record { length = length + 1; next = target })

-- the best step, where one may also go to each of the targets
abbrev pub nearest_from : (Target → Option ℕ) → Option Step → List Target → Option Step
nearest_from lengths best [] = best
nearest_from lengths best (target ∷ others) = nearest_from lengths (nearer best target (lengths target)) others

-- A step leads on along the first of the shortest paths from a target, whose length it has. It leads to an element or to
-- an earlier definition, and the path has no more steps than there are entries up to that of the target.
pub record StepsAlong (links : Entries) (from to : Target) (step : Step) : Type 0 where
  pub rest : List Target
  pub path : IsFirstPath links from to (step.next ∷ rest)
  pub length_is : step.length ≡ length rest + 1
  pub low : step.length ≤ rank from
  pub earlier : rank step.next < rank from

-- The first step from a target; there is none where no path leads to the other target.
abbrev pub IsFirstStep : Entries → Target → Target → Option Step → Type 0
IsFirstStep links from to None = (path : List Target) → LeadsAlong (targets_of links) from path to → ⊥
IsFirstStep links from to (Some step) = StepsAlong links from to step

-- each definition has its first step
abbrev pub AreFirstSteps : Entries → Target → List (Option Step) → Type 0
AreFirstSteps links to steps =
    (number : ℕ) → number < length steps
    → IsFirstStep links (Definition number) to (slice_index_or steps number None)
