-- Devices as the program keeps them, in a list, against the table of their answers.
use Rattle.std.proofs.Common.{◌≡◌, ℕ, ◌<◌, zero, suc, List, [], ◌∷◌, length, map, Option, Some, None, refl, sym, ap, subst, ◌∙◌, ◌≤◌, arith}
use Rattle.std.specs.Prelude.{ℤ, Bool, slice_get, slice_set}
use Rattle.std.proofs.Common.{get_or, Result, Ok, Err, IfOk, OnErr}
use Rattle.std.proofs.lemmas.Option.{slice_get_read}
use Rattle.std.specs.Option.{option_map}
use Rattle.cc_base.specs.declared.literal.Op.{Op}
use Rattle.cc_base.specs.Literals.{Literal, NumberLiteral}
use Rattle.cc_device.specs.Calls.{AnswersAs, RepliesAs, unit_if}
use Rattle.cc_device.specs.Devices.{DeviceState, answer_of, Devices, replying, reply_of, operate}

-- what is written back unchanged leaves a list as it is
set_same : {A : Type 0} (xs : List A) (i : ℕ) (x : A) → slice_get xs i ≡ Some x → slice_set xs i x ≡ xs
set_same [] i x e = refl
set_same (y ∷ xs) zero x e = let same : y ≡ x = cc in ap (λ z. z ∷ xs) (sym same)
set_same (y ∷ xs) (suc i) x e = ap (λ zs. y ∷ zs) (set_same xs i x e)

-- a change at one place of a list, seen through a function
set_mapped : {A B : Type 0} (f : A → B) (xs : List A) (i : ℕ) (x : A) → map f (slice_set xs i x) ≡ slice_set (map f xs) i (f x)
set_mapped f [] i x = refl
set_mapped f (y ∷ xs) zero x = refl
set_mapped f (y ∷ xs) (suc i) x = ap (λ zs. f y ∷ zs) (set_mapped f xs i x)

get_mapped : {A B : Type 0} (f : A → B) (xs : List A) (i : ℕ) (x : A) → slice_get xs i ≡ Some x → slice_get (map f xs) i ≡ Some (f x)
get_mapped f [] i x e = cc
get_mapped f (y ∷ xs) zero x e = let same : y ≡ x = cc in ap (λ z. Some (f z)) same
get_mapped f (y ∷ xs) (suc i) x e = get_mapped f xs i x e

-- a device that has an answer, among others
replies : (devices : Devices) (number : ℕ) (operation : Op) (argument answer : Option Literal) (before after : DeviceState)
    → slice_get devices number ≡ Some before
    → AnswersAs (answer_of before operation argument) answer before after
    → RepliesAs (operate devices number operation argument) answer devices (slice_set devices number after)
replies devices number operation argument (Some literal) before after there answers =
    ap (reply_of devices number operation argument) there
    ∙ ap (option_map (replying devices number)) answers
replies devices number operation argument None before after there answers = (
  ap (reply_of devices number operation argument) there
      ∙ ap (option_map (replying devices number)) answers.0,
  ap (slice_set devices number) answers.1 ∙ set_same devices number before there,
)

-- the same where the devices are seen through a function
pub replies_mapped : {A : Type 0} (f : A → DeviceState) (xs : List A) (number : ℕ) (operation : Op) (argument answer : Option Literal) (before after : A)
    → slice_get xs number ≡ Some before
    → AnswersAs (answer_of (f before) operation argument) answer (f before) (f after)
    → RepliesAs (operate (map f xs) number operation argument) answer (map f xs) (map f (slice_set xs number after))
replies_mapped f xs number operation argument answer before after there answers =
    let P : Devices → Type 0 = λ devices. RepliesAs (operate (map f xs) number operation argument) answer (map f xs) devices in
    subst P (sym (set_mapped f xs number after)) (replies (map f xs) number operation argument answer (f before) (f after) (get_mapped f xs number before there) answers)

get_past : {A B : Type 0} (f : A → B) (xs : List A) (i : ℕ) → length xs ≤ i → slice_get (map f xs) i ≡ None
get_past f [] i past = refl
get_past f (x ∷ xs) zero past = absurd (omega arith)
get_past f (x ∷ xs) (suc i) past = get_past f xs i (omega arith)

-- a number of no device
pub past_all : {A : Type 0} (f : A → DeviceState) (xs : List A) (number : ℕ) (operation : Op) (argument : Option Literal)
    → length xs ≤ number → operate (map f xs) number operation argument ≡ None
past_all f xs number operation argument past = ap (reply_of (map f xs) number operation argument) (get_past f xs number past)

-- what a call on the device of the number answers, where the program keeps the devices in a list
pub replied : {A : Type 0} (f : A → DeviceState) (xs : List A) (devices : Devices) (number : ℕ) (operation : Op) (argument answer : Option Literal) (before after : A)
    → map f xs ≡ devices → number < length xs → before ≡ get_or xs number before
    → AnswersAs (answer_of (f before) operation argument) answer (f before) (f after)
    → RepliesAs (operate devices number operation argument) answer devices (map f (slice_set xs number after))
replied f xs devices number operation argument answer before after seen below is answers =
    let P : Devices → Type 0 = λ ds. RepliesAs (operate ds number operation argument) answer ds (map f (slice_set xs number after)) in
    subst P seen (replies_mapped f xs number operation argument answer before after (slice_get_read xs (length xs) number before refl below is) answers)

-- where there is no such device
pub no_device : {A : Type 0} (f : A → DeviceState) (xs : List A) (devices : Devices) (number : ℕ) (operation : Op) (argument : Option Literal)
    → map f xs ≡ devices → length xs ≤ number → RepliesAs (operate devices number operation argument) None devices devices
no_device f xs devices number operation argument seen past =
    let P : Devices → Type 0 = λ ds. operate ds number operation argument ≡ None in
    (subst P seen (past_all f xs number operation argument past), refl)

-- a device that is as before leaves all as before
pub kept : {A : Type 0} (f : A → DeviceState) (xs : List A) (devices : Devices) (number : ℕ) (before after : A)
    → map f xs ≡ devices → number < length xs → before ≡ get_or xs number before → f after ≡ f before → map f (slice_set xs number after) ≡ devices
kept f xs devices number before after seen below is same =
    set_mapped f xs number after ∙ ap (slice_set (map f xs) number) same
    ∙ set_same (map f xs) number (f before) (get_mapped f xs number before (slice_get_read xs (length xs) number before refl below is)) ∙ seen

-- the same of calls that may lack memory
pub replied_if : {A : Type 0} {E : Type 0} (f : A → DeviceState) (xs : List A) (devices : Devices) (number : ℕ) (operation : Op) (argument : Option Literal) (before after : A) (result : Result Bool E)
    → map f xs ≡ devices → number < length xs → before ≡ get_or xs number before
    → IfOk result (λ taken. AnswersAs (answer_of (f before) operation argument) (unit_if taken) (f before) (f after))
    → IfOk result (λ taken. RepliesAs (operate devices number operation argument) (unit_if taken) devices (map f (slice_set xs number after)))
replied_if f xs devices number operation argument before after (Ok taken) seen below is answers =
    replied f xs devices number operation argument (unit_if taken) before after seen below is answers
replied_if f xs devices number operation argument before after (Err e) seen below is answers = tt

pub kept_if : {A : Type 0} {E : Type 0} (f : A → DeviceState) (xs : List A) (devices : Devices) (number : ℕ) (before after : A) (result : Result Bool E)
    → map f xs ≡ devices → number < length xs → before ≡ get_or xs number before
    → OnErr result (f after ≡ f before) → OnErr result (map f (slice_set xs number after) ≡ devices)
kept_if f xs devices number before after (Ok taken) seen below is same = tt
kept_if f xs devices number before after (Err e) seen below is same = kept f xs devices number before after seen below is same

-- the same of calls with a number, which is passed on as another one that is equal
pub replied_number : {A : Type 0} {E : Type 0} (f : A → DeviceState) (xs : List A) (devices : Devices) (number : ℕ) (operation : Op) (taken passed : ℤ) (before after : A) (result : Result Bool E)
    → passed ≡ taken → map f xs ≡ devices → number < length xs → before ≡ get_or xs number before
    → IfOk result (λ took. AnswersAs (answer_of (f before) operation (Some (NumberLiteral passed))) (unit_if took) (f before) (f after))
    → IfOk result (λ took. RepliesAs (operate devices number operation (Some (NumberLiteral taken))) (unit_if took) devices (map f (slice_set xs number after)))
replied_number f xs devices number operation taken passed before after result same seen below is answers =
    let P : ℤ → Type 0 = λ z. IfOk result (λ took. RepliesAs (operate devices number operation (Some (NumberLiteral z))) (unit_if took) devices (map f (slice_set xs number after))) in
    subst P same (replied_if f xs devices number operation (Some (NumberLiteral passed)) before after result seen below is answers)
