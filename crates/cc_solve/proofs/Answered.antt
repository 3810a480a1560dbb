-- What follows of an answer where there is one.
use Rattle.std.proofs.Common.{◌≡◌, Bool, true, false, Result, Ok, Err, OnOk}
use Rattle.std.specs.Bool.{MatchBool}

pub on_ok : {T E : Type 0} (r : Result T E) (A B : Type 0) → (A → B) → OnOk r A → OnOk r B
on_ok (Ok x) A B f a = f a
on_ok (Err x) A B f a = a

pub if_so : (b : Bool) (P Q : Type 0) → b ≡ true → MatchBool b P Q → P
if_so true P Q is h = h
if_so false P Q is h = cc
