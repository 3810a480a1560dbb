-- A front of a text, written behind the texts before it, is a front of all of them.
use Rattle.std.proofs.Common.{◌≡◌, ℕ, ◌+◌, List, ◌++◌, length, take, Option, Some, None, Err, refl, sym, ap, ◌∙◌, arith}
use Rattle.std.specs.Io.KnownBytes.{Appends, Keeps}
use Rattle.std.proofs.lemmas.List.{append_assoc, append-nil, length-append, take-append-le, take_all}
use Rattle.std.proofs.Math.Seq.{take-append-add}
use Rattle.cc_io.specs.Wholes.{AppendsFront, WritesWhole}
use Rattle.cc_io.specs.declared.whole.WriteAll.{WriteAll}
use Rattle.cc_io.specs.declared.whole.WriteAll.TheVariants as errors

-- all of the first reply stands at the front
pub AppendsFront-first : (old new : Option (List ℕ)) (first second : List ℕ) → AppendsFront old new first → AppendsFront old new (first ++ second)
AppendsFront-first None new first second h = (0, omega arith, tt)
AppendsFront-first (Some xs) None first second h = absurd h.2
AppendsFront-first (Some xs) (Some ys) first second h =
    let inside = h.1 in
    (h.0, omega (arith, length-append first second), h.2 ∙ ap (λ t. xs ++ t) (sym (take-append-le h.0 first second inside)))

-- nothing at all is a front
pub AppendsFront-none : (old new : Option (List ℕ)) (bytes : List ℕ) → Keeps old new → AppendsFront old new bytes
AppendsFront-none None new bytes h = (0, omega arith, tt)
AppendsFront-none (Some xs) None bytes h = absurd h
AppendsFront-none (Some xs) (Some ys) bytes h = (0, omega arith, h ∙ sym (append-nil xs))

pub AppendsFront-whole : (old new : Option (List ℕ)) (bytes : List ℕ) → Appends old new bytes → AppendsFront old new bytes
AppendsFront-whole None new bytes h = (0, omega arith, tt)
AppendsFront-whole (Some xs) None bytes h = absurd h
AppendsFront-whole (Some xs) (Some ys) bytes h = (length bytes, omega arith, h ∙ ap (λ t. xs ++ t) (sym (take_all (length bytes) bytes (omega arith))))

-- a front of the second text behind the whole first one is a front of both
pub AppendsFront-second : (old mid new : Option (List ℕ)) (first second : List ℕ) → Appends old mid first → AppendsFront mid new second → AppendsFront old new (first ++ second)
AppendsFront-second None mid new first second p q = (0, omega arith, tt)
AppendsFront-second (Some xs) None new first second p q = absurd p
AppendsFront-second (Some xs) (Some ys) None first second p q = absurd q.2
AppendsFront-second (Some xs) (Some ys) (Some zs) first second p q =
    let inside = q.1 in
    (length first + q.0, omega (arith, length-append first second), q.2 ∙ (ap (λ t. t ++ take q.0 second) p ∙ (append_assoc xs first (take q.0 second) ∙ ap (λ t. xs ++ t) (sym (take-append-add first second q.0)))))

-- one text behind another is both
pub Appends-both : (old mid new : Option (List ℕ)) (first second : List ℕ) → Appends old mid first → Appends mid new second → Appends old new (first ++ second)
Appends-both None mid new first second p q = tt
Appends-both (Some xs) None new first second p q = absurd p
Appends-both (Some xs) (Some ys) None first second p q = absurd q
Appends-both (Some xs) (Some ys) (Some zs) first second p q = q ∙ (ap (λ t. t ++ second) p ∙ append_assoc xs first second)

-- at an error in the first of two texts a front of both was written
pub WritesWhole-first : (T U : Type 0) (error : WriteAll) (old new : Option (List ℕ)) (first second : List ℕ) → WritesWhole {T = T} old new (Err error) first → WritesWhole {T = U} old new (Err error) (first ++ second)
WritesWhole-first T U errors.WriteFault old new first second h = AppendsFront-first old new first second h
WritesWhole-first T U errors.NoMemory old new first second h = AppendsFront-first old new first second h

-- and so it was at an error in the second one
pub WritesWhole-second : (T U : Type 0) (error : WriteAll) (old mid new : Option (List ℕ)) (first second : List ℕ) → Appends old mid first → WritesWhole {T = T} mid new (Err error) second → WritesWhole {T = U} old new (Err error) (first ++ second)
WritesWhole-second T U errors.WriteFault old mid new first second p h = AppendsFront-second old mid new first second p h
WritesWhole-second T U errors.NoMemory old mid new first second p h = AppendsFront-second old mid new first second p h

-- nothing was written where memory lacked at once
pub WritesWhole-none : (T : Type 0) (old : Option (List ℕ)) (text : List ℕ) → WritesWhole {T = T} old old (Err errors.NoMemory) text
WritesWhole-none T None text = (0, omega arith, tt)
WritesWhole-none T (Some xs) text = (0, omega arith, sym (append-nil xs))

pub Keeps-same : (old : Option (List ℕ)) → Keeps old old
Keeps-same None = tt
Keeps-same (Some xs) = refl
