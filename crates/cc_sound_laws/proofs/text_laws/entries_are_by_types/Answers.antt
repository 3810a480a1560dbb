use Rattle.cc_sound_laws.proofs.SoundTexts.{present_entries_are_accepted, started_definitions_have_entries, accepted_entries_are_entries}
use Rattle.cc_sound_laws.proofs.text_laws.entries_are_by_types.Goals as goal

pub returns : goal.returns
returns c =
    record {
      accepted = present_entries_are_accepted;
      exist = started_definitions_have_entries;
      typed = accepted_entries_are_entries;
    }
