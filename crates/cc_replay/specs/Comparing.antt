-- Comparing line by line, as the code does.
use Rattle.std.specs.Prelude.{◌≡◌, ℕ, ◌+◌, List, Option, Some, None}
use Rattle.cc_replay.specs.Replays.{Comparison, behind_line}
use Rattle.cc_replay.specs.declared.replaying.Replayed.{Replayed}
use Rattle.cc_replay.specs.declared.replaying.Replayed.TheVariants.{Agrees, Differs}
use Rattle.cc_replay.specs.declared.replaying.Told.{Told}
use Rattle.cc_replay.specs.declared.replaying.Told.TheVariants as steps
use Rattle.cc_words.specs.Lines.{lines_of}

-- the same where so many lines more stand before them
abbrev pub behind_lines : ℕ → Replayed → Replayed
behind_lines count Agrees = Agrees
behind_lines count (Differs line) = Differs (count + line)

-- what follows a line that is what it must be decides, and where there is none it differs there
abbrev pub decided_by : Comparison → Option (List ℕ) → Replayed
decided_by rest (Some others) = behind_line (rest (lines_of others))
decided_by rest None = Differs 1

-- what follows a step decides: all lines, where it tells nothing, or those behind its own
abbrev pub decided_after : Comparison → List ℕ → Told → Replayed
decided_after rest lines steps.Nothing = rest (lines_of lines)
decided_after rest lines (steps.Line others) = behind_line (rest (lines_of others.now))
decided_after rest lines steps.Another = Differs 1
