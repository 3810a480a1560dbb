-- What steps come to behind a log, one after the other.
use Rattle.std.proofs.Common.{◌≡◌, List, Option, Some, None, refl, sym, ap, ◌∙◌}
use Rattle.cc_base.specs.declared.code.Code.{Code}
use Rattle.cc_base.specs.declared.place.Place.{Place}
use Rattle.cc_checking.specs.Outcomes.{Placed, Outcome, NoAnswer, Refused, Found, finds, ◌>>=◌, found_or}
use Rattle.cc_known.specs.Keeping.{keeping}
use Rattle.cc_known.specs.Logs.{Logged, Stopped, Got, after, followed, plainly}
use Rattle.cc_type.proofs.InferredLogs.{none_kept, nothing_before, joined}

-- a step and the rest
pub after_steps : {A B : Type 0} (log : List Placed) (o : Outcome A) (rest : A → List Placed → Logged B)
    (next : A → Outcome B) → ((a : A) (l : List Placed) → rest a l ≡ after l (next a))
    → followed (after log o) rest ≡ after log (◌>>=◌ o next)
after_steps log o rest next h = joined log (after log o) rest o next refl h

-- the end
pub got_end : {A : Type 0} (a : A) (log : List Placed) → Got a log ≡ after log (finds a)
got_end a log = ap (λ l. Got a l) (none_kept log)

-- a step that may only be refused
pub after_option : {A B : Type 0} (log : List Placed) (code : Code) (at : Place) (o : Option A) (rest : A → Logged B)
    (next : A → Outcome B) → ((a : A) → rest a ≡ after log (next a))
    → plainly (found_or code at o) rest ≡ after log (◌>>=◌ (found_or code at o) next)
unfolding ◌>>=◌
after_option log code at (Some a) rest next h = h a ∙ ap (after log) (sym (nothing_before (next a)))
after_option log code at None rest next h = refl

-- what an outcome was, from what it comes to behind a log
pub got_parts : {A : Type 0} (log : List Placed) (o : Outcome A) (a : A) (later : List Placed) → after log o ≡ Got a later
    → (asked : List Placed) × (o ≡ Found a asked) × (later ≡ keeping log asked)
got_parts log NoAnswer a later e = cc
got_parts log (Refused code at) a later e = cc
got_parts log (Found b asked) a later e =
    let same : b ≡ a = cc in let rest : later ≡ keeping log asked = cc in (asked, ap (λ x. Found x asked) same, rest)

pub stopped_parts : {A : Type 0} (log : List Placed) (o : Outcome A) (code : Code) (at : Place)
    → after log o ≡ Stopped code at → o ≡ Refused code at
stopped_parts log NoAnswer code at e = cc
stopped_parts log (Refused c p) code at e = cc
stopped_parts log (Found b asked) code at e = cc
