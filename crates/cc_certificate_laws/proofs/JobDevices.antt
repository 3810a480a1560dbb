-- The devices of a job have names, which differ.
use Rattle.std.proofs.Common.{List, [], ◌∷◌, ◌++◌, map}
use Rattle.std.specs.List.{AllByRecursion}
use Rattle.cc_base.specs.Names.{IsName}
use Rattle.cc_base.specs.declared.device.DeviceDecl.{DeviceDecl}
use Rattle.cc_words.specs.Lines.{Line}
use Rattle.cc_job.specs.Jobs.{Item, Declares, Commands, AreItems}
use Rattle.cc_mnf.specs.ElaboratedModules.{device_names}
use Rattle.cc_certificate_laws.specs.ModuleCertificates.{DevicesOfJobsAreNamed}

declared_named : (lines : List Line) (devices : List DeviceDecl) (rest : List Item)
    → AreItems lines (map Declares devices ++ rest) → AllByRecursion IsName (device_names devices)
declared_named lines [] rest items = tt
declared_named lines (device ∷ devices) rest items = (items.1.0, declared_named items.0 devices rest items.3)

pub job_devices_named : DevicesOfJobsAreNamed
job_devices_named bytes job is =
    record { named = declared_named is.behind job.devices (map Commands job.commands) is.items; apart = is.names }
