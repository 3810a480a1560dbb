use Rattle.std.proofs.Common.{◌<◌, Option, ℕ, sym, subst, arith}
use Rattle.std.specs.Option.{option_map}
use Rattle.std.specs.Prelude.{IfSome}
use Rattle.cc_core.specs.TermViews.{bind_of}
use Rattle.cc_reasons.specs.ReasonTexts.{declared_members}
use Rattle.cc_captured_reasons.proofs.ToldNumbers.{members_low}
use Rattle.cc_captured_reasons.proofs.tellings.number_at.Goals as goal

pub number_from-requires : goal.number_from-requires
number_from-requires c =
    subst (λ (o : Option ℕ). IfSome o (λ number. number < 4294967295)) (sym c.lowest_at-least.ensures)
    (members_low 4294967295 c.args.told.now c.args.right.now (declared_members (option_map (λ b. bind_of b.now) c.args.entry)) (omega arith) c.requires)
