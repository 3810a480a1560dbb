-- What reading comes to with enough steps: the job of bytes, or their bad line. Worked jobs are computed by it.
use Rattle.std.proofs.Common.{◌≡◌, ℕ, zero, suc, ◌+◌, ◌<◌, ◌≤◌, Bool, true, false, cond, List, [], ◌∷◌, length, refl, subst, inl, inr, ◌⊎◌, arith}
use Rattle.std.specs.Str.{bytes_eq}
use Rattle.cc_base.specs.declared.device.DeviceDecl.{DeviceDecl}
use Rattle.cc_job.specs.declared.job.Job.{Job}
use Rattle.cc_job.specs.declared.job.Command.{Command}
use Rattle.cc_words.specs.Lines.{lines_of, next_line}
use Rattle.cc_job.specs.Jobs.{first_line, IsJob, IsBadAt, BytesAreAJobOrBad}
use Rattle.cc_job.specs.Reading.{Next, Read, BadLine, CutShort, next_item}
use Rattle.cc_job.proofs.Standing.{Stands, job_with}
use Rattle.cc_job.proofs.JobLaws.{stands_more, stands_bad, stands_short, stands_whole, first_bad, first_good}

-- what reading comes to: a job, a bad line, the end of the bytes within the lines behind another, or nothing
-- yet
pub data Found : Type 0 where
  AJob : (devices : List DeviceDecl) (commands : List Command) → Found
  BadAt : (number : ℕ) → Found
  BadBehind : Found
  Unread : Found

abbrev Reader : Type 0
Reader = List ℕ → List DeviceDecl → List Command → ℕ → Found

abbrev pub behind_item : Reader → ℕ → Next → Found
behind_item go number (Read count devices commands behind) = go behind devices commands (number + (count + 1))
behind_item go number (BadLine place) = BadAt (number + 1 + place)
behind_item go number CutShort = BadBehind

-- what is found in the rest of bytes in so many steps
abbrev pub found_in : ℕ → List ℕ → List DeviceDecl → List Command → ℕ → Found
found_in zero rest devices commands number = Unread
found_in (suc steps) [] devices commands number = AJob devices commands
found_in (suc steps) (b ∷ bs) devices commands number =
    behind_item (λ rest ds cs n. found_in steps rest ds cs n) number (next_item (b ∷ bs) devices commands)

abbrev pub found : ℕ → List ℕ → Found
found steps bytes =
    cond (bytes_eq (next_line bytes).0 first_line) (found_in steps (next_line bytes).1 [] [] 1) (BadAt 1)

-- what is found is so
abbrev IsFound : List ℕ → Found → Type 0
IsFound bytes (AJob devices commands) = IsJob bytes (job_with devices commands)
IsFound bytes (BadAt number) = IsBadAt bytes number
IsFound bytes BadBehind = IsBadAt bytes (length (lines_of bytes) + 1)
IsFound bytes Unread = Unit {0}

-- the same behind an item, where it is so of what is left
behind_is : (bytes : List ℕ) (go : Reader) → ((rest : List ℕ) (ds : List DeviceDecl) (cs : List Command) (n : ℕ) → Stands bytes rest ds cs n → IsFound bytes (go rest ds cs n))
    → (b : ℕ) (bs : List ℕ) (devices : List DeviceDecl) (commands : List Command) (number : ℕ) → Stands bytes (b ∷ bs) devices commands number
    → (next : Next) → next_item (b ∷ bs) devices commands ≡ next → IsFound bytes (behind_item go number next)
behind_is bytes go is b bs devices commands number stands (Read count ds cs behind) e =
    is behind ds cs (number + (count + 1)) (stands_more bytes b bs devices commands number stands count ds cs behind e).stands
behind_is bytes go is b bs devices commands number stands (BadLine place) e = stands_bad bytes b bs devices commands number stands place e
behind_is bytes go is b bs devices commands number stands CutShort e = stands_short bytes b bs devices commands number stands e

found_in_is : (bytes : List ℕ) (steps : ℕ) (rest : List ℕ) (devices : List DeviceDecl) (commands : List Command) (number : ℕ)
    → Stands bytes rest devices commands number → IsFound bytes (found_in steps rest devices commands number)
found_in_is bytes zero rest devices commands number stands = tt
found_in_is bytes (suc steps) [] devices commands number stands = stands_whole bytes devices commands number stands
found_in_is bytes (suc steps) (b ∷ bs) devices commands number stands =
    behind_is bytes (λ rest ds cs n. found_in steps rest ds cs n) (λ rest ds cs n at. found_in_is bytes steps rest ds cs n at)
    b bs devices commands number stands (next_item (b ∷ bs) devices commands) refl

found_is : (steps : ℕ) (bytes : List ℕ) → IsFound bytes (found steps bytes)
found_is steps bytes = at (bytes_eq (next_line bytes).0 first_line) refl
  where
    at : (test : Bool) → bytes_eq (next_line bytes).0 first_line ≡ test → IsFound bytes (cond test (found_in steps (next_line bytes).1 [] [] 1) (BadAt 1))
    at true e = found_in_is bytes steps (next_line bytes).1 [] [] 1 (first_good bytes e)
    at false e = first_bad bytes e

-- a job that is computed, and a bad line
pub job_found : (steps : ℕ) (bytes : List ℕ) (job : Job) → found steps bytes ≡ AJob job.devices job.commands → IsJob bytes job
job_found steps bytes job e = subst (IsFound bytes) e (found_is steps bytes)

pub bad_found : (steps : ℕ) (bytes : List ℕ) (number : ℕ) → found steps bytes ≡ BadAt number → IsBadAt bytes number
bad_found steps bytes number e = subst (IsFound bytes) e (found_is steps bytes)

pub short_found : (steps : ℕ) (bytes : List ℕ) → found steps bytes ≡ BadBehind → IsBadAt bytes (length (lines_of bytes) + 1)
short_found steps bytes e = subst (IsFound bytes) e (found_is steps bytes)

-- a job or a bad line
abbrev IsRead : List ℕ → Type 0
IsRead bytes = ((job : Job) × IsJob bytes job) ⊎ ((number : ℕ) × IsBadAt bytes number)

item_read : (bytes : List ℕ) (b : ℕ) (bs : List ℕ)
    → ((rest : List ℕ) (ds : List DeviceDecl) (cs : List Command) (n : ℕ) → length rest < length (b ∷ bs) → Stands bytes rest ds cs n → IsRead bytes)
    → (devices : List DeviceDecl) (commands : List Command) (number : ℕ) → Stands bytes (b ∷ bs) devices commands number
    → (next : Next) → next_item (b ∷ bs) devices commands ≡ next → IsRead bytes
item_read bytes b bs go devices commands number stands (Read count ds cs behind) e =
    let turn = stands_more bytes b bs devices commands number stands count ds cs behind e in
    go behind ds cs (number + (count + 1)) turn.shorter turn.stands
item_read bytes b bs go devices commands number stands (BadLine place) e =
    inr (number + 1 + place, stands_bad bytes b bs devices commands number stands place e)
item_read bytes b bs go devices commands number stands CutShort e =
    inr (length (lines_of bytes) + 1, stands_short bytes b bs devices commands number stands e)

lower : (m n k : ℕ) → n ≤ suc k → m < n → m ≤ k
lower m n k low less = omega arith

rest_read : (bytes : List ℕ) (most : ℕ) (rest : List ℕ) (devices : List DeviceDecl) (commands : List Command) (number : ℕ)
    → length rest ≤ most → Stands bytes rest devices commands number → IsRead bytes
rest_read bytes zero [] devices commands number low stands = inl (job_with devices commands, stands_whole bytes devices commands number stands)
rest_read bytes (suc most) [] devices commands number low stands = inl (job_with devices commands, stands_whole bytes devices commands number stands)
rest_read bytes zero (b ∷ bs) devices commands number low stands = absurd (omega arith)
rest_read bytes (suc most) (b ∷ bs) devices commands number low stands =
    item_read bytes b bs
    (λ rest ds cs n less at. rest_read bytes most rest ds cs n (lower (length rest) (length (b ∷ bs)) most low less) at)
    devices commands number stands (next_item (b ∷ bs) devices commands) refl

pub job_or_bad_line : BytesAreAJobOrBad
job_or_bad_line bytes = at (bytes_eq (next_line bytes).0 first_line) refl
  where
    at : (test : Bool) → bytes_eq (next_line bytes).0 first_line ≡ test → IsRead bytes
    at true e = rest_read bytes (length (next_line bytes).1) (next_line bytes).1 [] [] 1 (omega arith) (first_good bytes e)
    at false e = inr (1, first_bad bytes e)
