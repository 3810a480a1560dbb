-- What a source and a sink in memory are set to do, and what they keep.
use Rattle.std.specs.Prelude.{ℕ, ◌+◌, ◌-◌, ◌^◌, min, List, Result, Ok, Err}
use Rattle.std.specs.List.{Contains}
use Rattle.cc_io.specs.declared.traits.Failed.{Failed}
use Rattle.cc_io.specs.declared.traits.WriteError.{WriteError}
use Rattle.cc_io.specs.declared.traits.WriteError.TheVariants as write_errors

-- how many bytes a call moves at most, the numbers of the calls that fail, and how many calls were made
pub record CallPlan : Type 0 where
  pub most : ℕ
  pub fails : List ℕ
  pub calls : ℕ

-- a plan before its first call
abbrev pub fresh_plan : ℕ → List ℕ → CallPlan
fresh_plan most fails = record { most = most; fails = fails; calls = 0 }

-- the number of the next call, counted from 1; the count stops at the largest u64
abbrev pub next_number : CallPlan → ℕ
next_number plan = min (plan.calls + 1) (2 ^ 64 - 1)

-- the plan behind one more call
abbrev pub after_call : CallPlan → CallPlan
after_call plan = record plan { calls = next_number plan }

-- the next call is one of those that fail
abbrev pub IsFailing : CallPlan → Type 0
IsFailing plan = Contains plan.fails (next_number plan)

-- a read fails exactly where its number is one of those that fail
abbrev pub ReadFollows : CallPlan → Result ℕ Failed → Type 0
ReadFollows plan (Ok n) = ¬ IsFailing plan
ReadFollows plan (Err failed) = IsFailing plan

-- a write fails exactly where its number is one of those that fail; a lack of memory is no failure
abbrev pub WriteFollows : CallPlan → Result ℕ WriteError → Type 0
WriteFollows plan (Ok n) = ¬ IsFailing plan
WriteFollows plan (Err write_errors.Failed) = IsFailing plan
WriteFollows plan (Err write_errors.NoMemory) = ¬ IsFailing plan

-- what a source in memory keeps: the bytes that are left, how often a read failed, and its plan
pub record SourceInMemory : Type 0 where
  pub left : List ℕ
  pub faults : ℕ
  pub plan : CallPlan

-- what a sink in memory keeps: the bytes that were written, how often a write failed, and its plan
pub record SinkInMemory : Type 0 where
  pub written : List ℕ
  pub faults : ℕ
  pub plan : CallPlan
