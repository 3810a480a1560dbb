-- A session as contracts see it.
use Rattle.std.specs.Prelude.{◌≡◌, ◌≤◌, not, Bool, IsTrue, List, length}
use Rattle.cc_base.specs.declared.device.DeviceDecl.{DeviceDecl}
use Rattle.cc_judge.specs.declared.last.Last.{Last}
use Rattle.cc_judge.specs.Judgements.{Judgement, AreCurrent}
use Rattle.cc_judge.specs.Kept.{IsKept}
use Rattle.cc_verdicts.specs.ModuleLaws.{NamesOfDevicesDiffer}
use Rattle.cc_verdicts.specs.PresentTexts.{Texts, ArePresent, most_modules}

-- A session: the devices, the present modules with their texts, whether it is checked, and the judgements of the last
-- check that answered Ok, in order of name.
pub record SessionState : Type 0 where
  pub devices : List DeviceDecl
  pub present : Texts
  pub checked : Bool
  pub last : List Judgement

-- the last judgements are those of the present modules
abbrev pub IsUpToDate : SessionState → Type 0
IsUpToDate session = AreCurrent session.devices session.present session.last

-- What holds of every session, which keeps these judgements: the names of the devices differ; not too many modules are
-- present, in order of name; each verdict that is kept is deserved by what it was given for; and where the session is
-- checked, they are those of the present modules.
pub record IsSession (session : SessionState) (last : Last) : Type 0 where
  pub differ : NamesOfDevicesDiffer session.devices
  pub present : ArePresent session.present
  pub few : length session.present ≤ most_modules
  pub kept : IsKept session.devices last
  pub current : IsTrue session.checked → IsUpToDate session

-- the session with other texts, and not checked
abbrev pub HasTexts : SessionState → Texts → SessionState → Type 0
HasTexts old texts new =
    (new.devices ≡ old.devices) × (new.present ≡ texts) × IsTrue (not new.checked) × (new.last ≡ old.last)
