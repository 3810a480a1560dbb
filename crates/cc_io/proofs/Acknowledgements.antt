-- Lemmas on the calls by which a sink over a writer has acknowledged bytes.
use Rattle.std.proofs.Common.{◌≡◌, ℕ, zero, suc, ◌+◌, ◌≤◌, List, [], ◌++◌, length, take, Option, Result, Ok, Err, inl, inr}
use Rattle.std.proofs.Common.{refl, sym, ap, ◌∙◌, subst, arith, append_assoc, append-nil}
use Rattle.std.specs.declared.io.Error.{Error}
use Rattle.std.specs.Io.KnownBytes.{Appends}
use Rattle.std.proofs.KnownBytes.{Appends-nil, Appends-trans, Appends-kept}
use Rattle.cc_io.specs.declared.traits.WriteError.{WriteError}
use Rattle.cc_io.specs.declared.traits.WriteError.TheVariants as write_errors
use Rattle.cc_io.specs.Acknowledged.{StdWrites, StdFlushes, HasAcknowledged, HasBesides, HoldsAcknowledged}
use Rattle.cc_io.specs.HandedOn.{HandsOnWrite}

-- a sink that was just made has acknowledged nothing
pub nothing_yet : {W : Type 0} (writes : W → List ℕ → Result ℕ Error → W → Type 0)
    (flushes : W → Result (Unit {0}) Error → W → Type 0) (begun writer : W) (bytes : List ℕ) → begun ≡ writer → bytes ≡ []
    → HasAcknowledged writes flushes begun writer 0 bytes
nothing_yet writes flushes begun writer bytes same none =
    subst (λ start. HasAcknowledged writes flushes start writer 0 bytes) (sym same)
    (subst (HasAcknowledged writes flushes writer writer 0) (sym none) HasAcknowledged.nothing)

-- a write that is taken acknowledges the front that was taken
pub one_taken : {W : Type 0} (writes : W → List ℕ → Result ℕ Error → W → Type 0)
    (flushes : W → Result (Unit {0}) Error → W → Type 0) (begun old new : W) (faults : ℕ) (bytes more piece : List ℕ) (n : ℕ)
    → HasAcknowledged writes flushes begun old faults bytes → n ≤ length piece
    → HandsOnWrite writes flushes old new piece (Ok n) → more ≡ bytes ++ take n piece
    → HasAcknowledged writes flushes begun new faults more
one_taken writes flushes begun old new faults bytes more piece n before few write same =
    subst (HasAcknowledged writes flushes begun new faults) (sym same)
    (HasAcknowledged.taken old new faults bytes piece n before few write)

-- a write that fails acknowledges nothing
pub one_failed : {W : Type 0} (writes : W → List ℕ → Result ℕ Error → W → Type 0)
    (flushes : W → Result (Unit {0}) Error → W → Type 0) (begun old new : W) (faults : ℕ) (bytes piece : List ℕ)
    (error : WriteError) → HasAcknowledged writes flushes begun old faults bytes
    → HandsOnWrite writes flushes old new piece (Err error) → HasAcknowledged writes flushes begun new (faults + 1) bytes
one_failed writes flushes begun old new faults bytes piece write_errors.Failed before write =
    subst (λ count. HasAcknowledged writes flushes begun new count bytes) (omega arith)
    (HasAcknowledged.failed old new faults bytes piece before write)
one_failed writes flushes begun old new faults bytes piece write_errors.NoMemory before write = absurd write

-- what the writer took where a write failed
given_besides : {W : Type 0} (contents : W → Option (List ℕ)) (writes : W → List ℕ → Result ℕ Error → W → Type 0)
    (flushes : W → Result (Unit {0}) Error → W → Type 0) (old new : W) (piece : List ℕ)
    → HandsOnWrite (StdWrites contents writes) (StdFlushes contents flushes) old new piece (Err write_errors.Failed)
    → (more : List ℕ) × Appends (contents old) (contents new) more
given_besides contents writes flushes old new piece (inl failed) =
    ([], Appends-kept (contents old) (contents old) (contents new) [] (Appends-nil (contents old)) failed.1.2)
given_besides contents writes flushes old new piece (inr (inl empty)) = (take 0 piece, empty.1.2)
given_besides contents writes flushes old new piece (inr (inr flushed)) =
    (take flushed.0 piece, Appends-kept (contents old) (contents flushed.2.between) (contents new) _ flushed.2.written.2 flushed.2.flushed.1)

-- what is acknowledged behind is given behind
besides_more : (faults : ℕ) (given acknowledged more : List ℕ) → HasBesides faults given acknowledged
    → HasBesides faults (given ++ more) (acknowledged ++ more)
besides_more zero given acknowledged more same = ap (λ bytes. bytes ++ more) same
besides_more (suc faults) given acknowledged more is = (
  is.0,
  is.1,
  is.2,
  is.3 ++ more,
  ap (λ bytes. bytes ++ more) is.4 ∙ append_assoc (is.0 ++ is.2) is.3 more,
  ap (λ bytes. bytes ++ more) is.5 ∙ append_assoc is.1 is.3 more,
  is.6,
)

-- with no fault nothing is given besides
none_besides : (faults : ℕ) (given acknowledged : List ℕ) → HasBesides faults given acknowledged → faults ≡ 0 → given ≡ acknowledged
none_besides zero given acknowledged same none = same
none_besides (suc faults) given acknowledged is none = absurd (omega (arith, none))

-- what the writer holds has grown by what was acknowledged, and by what it took besides
pub holds_acknowledged : {W : Type 0} (contents : W → Option (List ℕ)) (writes : W → List ℕ → Result ℕ Error → W → Type 0)
    (flushes : W → Result (Unit {0}) Error → W → Type 0) {begun now : W} {faults : ℕ} {bytes : List ℕ}
    → HasAcknowledged (StdWrites contents writes) (StdFlushes contents flushes) begun now faults bytes
    → HoldsAcknowledged contents begun now faults bytes
holds_acknowledged contents writes flushes {begun = begun} HasAcknowledged.nothing = ([], Appends-nil (contents begun), refl)
holds_acknowledged contents writes flushes {begun = begun} (HasAcknowledged.taken old new faults bytes piece n before few write) =
    let held = holds_acknowledged contents writes flushes before in
    let more = Appends-kept (contents old) (contents write.between) (contents new) _ write.written.2 write.flushed.1 in (
      held.0 ++ take n piece,
      Appends-trans (contents begun) (contents old) (contents new) held.0 (take n piece) held.1 more,
      besides_more faults held.0 bytes (take n piece) held.2,
    )
holds_acknowledged contents writes flushes {begun = begun} (HasAcknowledged.failed old new faults bytes piece before write) =
    let held = holds_acknowledged contents writes flushes before in
    let more = given_besides contents writes flushes old new piece write in (
      held.0 ++ more.0,
      Appends-trans (contents begun) (contents old) (contents new) held.0 more.0 held.1 more.1,
      (held.0, bytes, more.0, [], sym (append-nil (held.0 ++ more.0)), sym (append-nil bytes), held.2),
    )

-- with no fault it has grown by what was acknowledged
pub holds_whole : {W : Type 0} (contents : W → Option (List ℕ)) (begun now : W) (faults : ℕ) (bytes : List ℕ)
    → HoldsAcknowledged contents begun now faults bytes → faults ≡ 0 → Appends (contents begun) (contents now) bytes
holds_whole contents begun now faults bytes held none =
    subst (Appends (contents begun) (contents now)) (none_besides faults held.0 bytes held.2 none) held.1
