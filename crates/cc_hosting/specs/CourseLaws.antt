-- What is answered where a definition is to be run on the devices of a host: there is one such answer, and what comes of more
-- and of fewer lines of the host.
use Rattle.std.specs.Prelude.{◌≡◌, ℕ, List, [], ◌++◌}
use Rattle.cc_base.specs.declared.device.DeviceDecl.{DeviceDecl}
use Rattle.cc_hosting.specs.HostedRuns.{IsHosted}
use Rattle.cc_live.specs.LiveLaws.{GoesOnWith}
use Rattle.cc_live.specs.LiveRuns.{Standing, Over, Waits, Breaks, Course}
use Rattle.cc_replies.specs.Requests.{JobState}
use Rattle.cc_verdicts.specs.ModuleLaws.{NamesOfDevicesDiffer}
use Rattle.cc_verdicts.specs.PresentTexts.{ArePresent}
use Rattle.cc_words.specs.Lines.{Line}

-- What was told is not taken back when the host says more.
abbrev pub MoreLinesGoOn : Course → Type 0
MoreLinesGoOn course =
    (lines more : List Line) → GoesOnWith more (course lines).text (course lines).standing (course (lines ++ more))

-- Where a run is over, or broke, with lines left, the same comes of those before them.
abbrev pub LinesAreUsed : Course → List Line → List ℕ → Standing → Type 0
LinesAreUsed course lines text (Over refused rest) =
    (host : List Line) × (lines ≡ host ++ rest) × (course host ≡ record { text = text; standing = Over refused [] })
LinesAreUsed course lines text Waits = Unit {0}
LinesAreUsed course lines text (Breaks rest) =
    (host : List Line) × (lines ≡ host ++ rest) × (course host ≡ record { text = text; standing = Breaks [] })

-- both hold of whatever is answered where a definition is to be run on the devices of a host
pub record IsSteady (course : Course) : Type 0 where
  pub more : MoreLinesGoOn course
  pub used : (lines : List Line) → LinesAreUsed course lines (course lines).text (course lines).standing

abbrev pub HostedRunsAreSteady : Type 0
HostedRunsAreSteady =
    (devices : List DeviceDecl) (state : JobState) (owner definition : List ℕ) (fuel : ℕ) (course : Course)
    → IsHosted devices state owner definition fuel course → IsSteady course

-- Something is answered.
abbrev pub HostedRunsExist : Type 0
HostedRunsExist =
    (devices : List DeviceDecl) (state : JobState) (owner definition : List ℕ) (fuel : ℕ) → NamesOfDevicesDiffer devices
    → ArePresent state.texts → (course : Course) × IsHosted devices state owner definition fuel course

-- And it is one.
abbrev pub HostedRunsAreOne : Type 0
HostedRunsAreOne =
    (devices : List DeviceDecl) (state : JobState) (owner definition : List ℕ) (fuel : ℕ) (first second : Course)
    → ArePresent state.texts → IsHosted devices state owner definition fuel first
    → IsHosted devices state owner definition fuel second → first ≡ second
