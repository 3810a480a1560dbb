-- The number and the message of each status, written out.
use Rattle.std.specs.Prelude.{◌≡◌, ℕ, List, codes, Option, Some, None}
use Rattle.cc_program.specs.declared.status.Status.{Status}
use Rattle.cc_program.specs.declared.status.Status.TheVariants.{Clean, Refusals, BadJob, ReadFault, WriteFault}
use Rattle.cc_program.specs.declared.status.Status.TheVariants.{NoMemory, BadWords, TooLong}
use Rattle.cc_program.specs.Status.{number_of, message_of}
use Rattle.cc_program.specs.Outcome.{job_limit, Ends, TakesMany, Outcome}

-- the program that ends so ends with this number, and says this on standard error
abbrev pub Shows : Status → ℕ → Option (List ℕ) → Type 0
Shows status number message = (number_of status ≡ number) × (message_of status ≡ message)

-- all eight statuses, those with a line at the least and the greatest number of a line
pub record StatusesShow : Type 0 where
  pub clean : Shows Clean 0 None
  pub refusals : Shows Refusals 1 None
  pub bad_job : Shows (BadJob 1) 2 (Some (codes "capc: bad job at line 1"))
  pub bad_job_far : Shows (BadJob 4294967295) 2 (Some (codes "capc: bad job at line 4294967295"))
  pub read_fault : Shows ReadFault 3 (Some (codes "capc: read fault"))
  pub write_fault : Shows WriteFault 4 (Some (codes "capc: write fault"))
  pub no_memory : Shows NoMemory 5 (Some (codes "capc: out of memory"))
  pub bad_words : Shows BadWords 6 (Some (codes "capc: bad words"))
  pub too_long : Shows TooLong 7 (Some (codes "capc: job too long"))

-- a job may have 4,194,304 bytes, and it is too long where one more was taken
abbrev pub JobsHaveSoManyBytes : Type 0
JobsHaveSoManyBytes = (job_limit ≡ 4194304)
    × ((before after : Ends) → Outcome before after TooLong → TakesMany (λ n. n ≡ 4194305) before after)
