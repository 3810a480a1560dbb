use Rattle.std.proofs.Common.{[], ◌∷◌, refl}
use Rattle.std.proofs.raw_atomic.Walks.{proved}
use base.Fml.{ftrue}
use mir.Val.{vstruct, vnil}
use types.Kit.{‵, raw, ◌$◌, ◌∵◌, !, qed, done, drop, use0, suffices}
use types.Part.{agg}
use types.Run.{enter, no_more, returns}
use types.ByLocal.{alloc_all, pass_all, free_all, look_at, sets}
use denote.Shadow.{makes_shadow}
use denote.Steps.{nothing}
use denote.Triple.Entry.{on_entry}
use denote.Triple.Walked.{Stays, walk_of, says, ends_at}
use Rattle.cc_io.specs.declared.history.History.{History}
use Rattle.cc_io.specs.contracts.history.History.{the_row}
use Rattle.cc_io.specs.contracts.history.History.new as f
use Rattle.cc_io.proofs.history.History.new.Statement.{statement}
use Rattle.cc_io.proofs.history.History.new.Code as code

abbrev stayed : Stays f.ended.signature.params f.ended.kept
stayed = tt

abbrev empty : History
empty = record { text = [] }

-- A value with no field is made. It owns nothing, and its text is chosen.
pub new_spec : {M : Type 1} → statement M
new_spec 𝓤 𝓛 𝓜 𝓡 wired =
    let c = f.clauses 𝓛 𝓜.mem 𝓡.returns in let W = walk_of 𝓛 f.ended stayed c in
    proved 𝓛 f.ended stayed c 𝓜 𝓡 tt f.Key.name code.function (code.unfolded 𝓤 𝓛.H 𝓜 𝓡 wired) (λ κs. tt) (λ κs. tt) (λ κs qs bounds a _ are.
    let y : W.Ghost = ((κs, qs, bounds, a, tt), tt) in
    qed 𝓛 (raw (on_entry 𝓛 f.signature κs qs a y.0.4) ∷ ‵ ftrue ∷ []) ∵ drop ! $ drop ! $
    enter ! _ _ _ _ _ $ alloc_all ! (λ l. pass_all ! refl tt $
    sets ! (agg ! (no_more !)) refl (tt, tt) $
    returns ! (look_at ! 0 refl) $ free_all ! refl $
    suffices ! _ (ends_at 𝓛 f.ended stayed c y (vstruct vnil) empty tt tt) $ says ! refl $
    use0 𝓛 (‵ (the_row.own_val empty (vstruct vnil ∷ [])))
    (makes_shadow 𝓛 (the_row.own_val empty (vstruct vnil ∷ [])) ((λ _. (tt, tt)), tt) ((tt, (refl, tt)), tt)) $
    nothing ! $ nothing ! $ done !))
