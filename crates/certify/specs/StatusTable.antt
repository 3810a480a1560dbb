-- The number and the message of each status, written out.
use Rattle.std.specs.Prelude.{◌≡◌, ℕ, List, codes, Option, Some, None}
use Rattle.certify.specs.declared.status.Status.{Status}
use Rattle.certify.specs.declared.status.Status.TheVariants.{Valid, Invalid, ReadFault, TooLong, NoMemory, WriteFault, BadWords}
use Rattle.certify.specs.Status.{number_of, message_of}
use Rattle.certify.specs.Outcome.{certificate_limit, Ends, TakesMany, Outcome}

-- the program that ends so ends with this number, and says this on standard error
abbrev pub Shows : Status → ℕ → Option (List ℕ) → Type 0
Shows status number message = (number_of status ≡ number) × (message_of status ≡ message)

-- all seven statuses
pub record StatusesShow : Type 0 where
  pub valid : Shows Valid 0 None
  pub invalid : Shows Invalid 1 None
  pub read_fault : Shows ReadFault 2 (Some (codes "certify: read fault"))
  pub too_long : Shows TooLong 2 (Some (codes "certify: certificate too long"))
  pub no_memory : Shows NoMemory 2 (Some (codes "certify: out of memory"))
  pub write_fault : Shows WriteFault 2 (Some (codes "certify: write fault"))
  pub bad_words : Shows BadWords 6 (Some (codes "certify: bad words"))

-- a certificate may have 4,294,967,295 bytes, and it is too long where one more was taken
abbrev pub CertificatesHaveSoManyBytes : Type 0
CertificatesHaveSoManyBytes = (certificate_limit ≡ 4294967295)
    × ((before after : Ends) → Outcome before after TooLong → TakesMany (λ n. n ≡ 4294967296) before after)
