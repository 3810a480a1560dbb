-- Worked jobs, and bytes that are none.
use Rattle.std.proofs.Common.{◌≡◌, ℕ, List, [], ◌∷◌, ◌++◌, refl, inr, subst, Some, arith}
use Rattle.std.specs.Prelude.{codes, encode_utf8_all}
use Rattle.std.specs.List.{IsDistinct}
use Rattle.unicode_ident.proofs.Computing.{unicode_ident}
use Rattle.cc_base.specs.Names.{IsName, is_reserved, reserved_words}
use Rattle.cc_base.specs.declared.device.DeviceDecl.{DeviceDecl}
use Rattle.cc_base.specs.declared.device.Kind.TheVariants.{Console}
use Rattle.cc_job.specs.declared.job.Command.TheVariants.{Check}
use Rattle.cc_words.specs.Words.{name_of, number_of, signed_of, pair_of}
use Rattle.cc_job.specs.Reading.{is_schedule, schedule_of, turns_of, file_of, kind_with, kind_of, device_of, put_of, drop_of, check_of, sig_of, derive_of, run_of, tasks_of, command_with, head_with, head_of, admits, Read, BadLine, CutShort, next_item}
use Rattle.cc_job.specs.JobExamples.{ShortestJob, NothingIsBad, TwoSpacesAreBad, MinusZeroIsBad, MissingTaskIsBad, LateDeviceIsBad, SecondNameIsBad, ShortTextIsBad, OpenTextIsBad}
use Rattle.cc_job.specs.Jobs.{text}
use Rattle.cc_words.proofs.NameBytes.{name_of-encoded}
use Rattle.cc_job.proofs.JobLaws.{turn, bad, cut_short, first_bad, first_good}
use lib.Utf8.{encode}

pub shortest_job : ShortestJob
unfolding IsDistinct
shortest_job = record { behind = []; begins = refl; items = refl; few = omega arith; names = tt; ended = inr refl }

pub nothing_is_bad : NothingIsBad
nothing_is_bad = first_bad [] refl

pub two_spaces_are_bad : TwoSpacesAreBad
unfolding next_item head_of head_with command_with device_of put_of drop_of check_of sig_of derive_of run_of tasks_of turns_of schedule_of is_schedule pair_of kind_of kind_with file_of name_of number_of signed_of admits unicode_ident is_reserved reserved_words
two_spaces_are_bad =
    let bytes = text (codes "capc 1" ∷ codes "check" ∷ codes "drop  m" ∷ codes "check" ∷ []) in
    let first = first_good bytes refl in
    let second = turn bytes [] [] 1 (text (codes "check" ∷ codes "drop  m" ∷ codes "check" ∷ [])) first refl 0 _ _ _ refl in
    bad bytes _ _ 2 (text (codes "drop  m" ∷ codes "check" ∷ [])) second.stands refl 0 refl

-- a name that is its text
named : (name : List ℕ) → IsName name → encode_utf8_all name ≡ name → name_of name ≡ Some name
named name is ascii = subst (λ it. name_of it ≡ Some name) ascii (name_of-encoded name is)

in_is : name_of (codes "in") ≡ Some (codes "in")
unfolding encode unicode_ident is_reserved reserved_words
in_is = named (codes "in") refl refl

out_is : name_of (codes "out") ≡ Some (codes "out")
unfolding encode unicode_ident is_reserved reserved_words
out_is = named (codes "out") refl refl

m_is : name_of (codes "m") ≡ Some (codes "m")
unfolding encode unicode_ident is_reserved reserved_words
m_is = named (codes "m") refl refl

f_is : name_of (codes "f") ≡ Some (codes "f")
unfolding encode unicode_ident is_reserved reserved_words
f_is = named (codes "f") refl refl

g_is : name_of (codes "g") ≡ Some (codes "g")
unfolding encode unicode_ident is_reserved reserved_words
g_is = named (codes "g") refl refl

minus_zero : next_item (text (codes "device in file -0" ∷ [])) [] [] ≡ BadLine 0
unfolding next_item head_of head_with command_with device_of put_of check_of tasks_of turns_of schedule_of is_schedule pair_of kind_of kind_with file_of number_of signed_of admits
minus_zero = rw in_is refl

pub minus_zero_is_bad : MinusZeroIsBad
unfolding next_item
minus_zero_is_bad =
    let bytes = text (codes "capc 1" ∷ [] ∷ codes "device in file -0" ∷ []) in
    let first = first_good bytes refl in
    let second = turn bytes [] [] 1 (text ([] ∷ codes "device in file -0" ∷ [])) first refl 0 [] [] (text (codes "device in file -0" ∷ [])) refl in
    bad bytes [] [] 2 (text (codes "device in file -0" ∷ [])) second.stands refl 0 minus_zero

missing_task : next_item (text (codes "tasks 1 0,0 m.f m.g" ∷ [])) [] [] ≡ BadLine 0
unfolding next_item head_of head_with command_with device_of put_of check_of tasks_of turns_of schedule_of is_schedule pair_of kind_of kind_with file_of number_of signed_of admits
missing_task = rw (m_is, f_is, g_is) refl

pub missing_task_is_bad : MissingTaskIsBad
missing_task_is_bad =
    let bytes = text (codes "capc 1" ∷ codes "tasks 1 0,0 m.f m.g" ∷ []) in
    bad bytes [] [] 1 (text (codes "tasks 1 0,0 m.f m.g" ∷ [])) (first_good bytes refl) refl 0 missing_task

late_device : next_item (text (codes "device out console" ∷ [])) [] (Check ∷ []) ≡ BadLine 0
unfolding next_item head_of head_with command_with device_of put_of check_of tasks_of turns_of schedule_of is_schedule pair_of kind_of kind_with file_of number_of signed_of admits
late_device = rw out_is refl

pub late_device_is_bad : LateDeviceIsBad
unfolding next_item head_of head_with command_with check_of
late_device_is_bad =
    let bytes = text (codes "capc 1" ∷ codes "check" ∷ codes "device out console" ∷ []) in
    let first = first_good bytes refl in
    let second = turn bytes [] [] 1 (text (codes "check" ∷ codes "device out console" ∷ [])) first refl 0 [] (Check ∷ []) (text (codes "device out console" ∷ [])) refl in
    bad bytes [] (Check ∷ []) 2 (text (codes "device out console" ∷ [])) second.stands refl 0 late_device

abbrev out : List DeviceDecl
out = record { name = codes "out"; kind = Console } ∷ []

first_out : next_item (text (codes "device out console" ∷ codes "device out counter" ∷ [])) [] [] ≡ Read 0 out [] (text (codes "device out counter" ∷ []))
unfolding next_item head_of head_with command_with device_of put_of check_of tasks_of turns_of schedule_of is_schedule pair_of kind_of kind_with file_of number_of signed_of admits
first_out = rw out_is refl

second_out : next_item (text (codes "device out counter" ∷ [])) out [] ≡ BadLine 0
unfolding next_item head_of head_with command_with device_of put_of check_of tasks_of turns_of schedule_of is_schedule pair_of kind_of kind_with file_of number_of signed_of admits
second_out = rw out_is refl

pub second_name_is_bad : SecondNameIsBad
second_name_is_bad =
    let bytes = text (codes "capc 1" ∷ codes "device out console" ∷ codes "device out counter" ∷ []) in
    let first = first_good bytes refl in
    let second = turn bytes [] [] 1 (text (codes "device out console" ∷ codes "device out counter" ∷ [])) first refl 0 out [] (text (codes "device out counter" ∷ [])) first_out in
    bad bytes out [] 2 (text (codes "device out counter" ∷ [])) second.stands refl 0 second_out

short_text : next_item (text (codes "put m 3" ∷ codes "a" ∷ codes "b" ∷ [])) [] [] ≡ CutShort
unfolding next_item head_of head_with command_with device_of put_of check_of tasks_of turns_of schedule_of is_schedule pair_of kind_of kind_with file_of number_of signed_of admits
short_text = rw m_is refl

pub short_text_is_bad : ShortTextIsBad
short_text_is_bad =
    let bytes = text (codes "capc 1" ∷ codes "put m 3" ∷ codes "a" ∷ codes "b" ∷ []) in
    cut_short bytes [] [] 1 (text (codes "put m 3" ∷ codes "a" ∷ codes "b" ∷ [])) (first_good bytes refl) refl short_text

open_text : next_item (text (codes "put m 2" ∷ codes "a" ∷ []) ++ codes "b") [] [] ≡ CutShort
unfolding next_item head_of head_with command_with device_of put_of check_of tasks_of turns_of schedule_of is_schedule pair_of kind_of kind_with file_of number_of signed_of admits
open_text = rw m_is refl

pub open_text_is_bad : OpenTextIsBad
open_text_is_bad =
    let bytes = text (codes "capc 1" ∷ codes "put m 2" ∷ codes "a" ∷ []) ++ codes "b" in
    cut_short bytes [] [] 1 (text (codes "put m 2" ∷ codes "a" ∷ []) ++ codes "b") (first_good bytes refl) refl open_text
