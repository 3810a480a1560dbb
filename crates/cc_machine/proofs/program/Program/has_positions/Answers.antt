use Rattle.std.proofs.Common.{◌≡◌, ℕ, ◌+◌, ◌<◌, ◌↔◌, IsTrue, min, ltb, sym, subst, arith}
use Rattle.std.proofs.lemmas.Bool.{ltb-true, lt-ltb}
use Rattle.cc_machine.proofs.Starting.{program_counted}
use Rattle.cc_machine.proofs.program.Program.has_positions.Goals as goal

-- a sum that stops at the greatest number is below a limit exactly where the sum is
below_limit : (total sum limit : ℕ) → sum ≡ min total 18446744073709551615 → limit < 18446744073709551615 → IsTrue (ltb sum limit) ↔ (total < limit)
below_limit total sum limit e low =
    ((λ h. let less = ltb-true sum limit h in omega arith), (λ h. let less : sum < limit = omega arith in lt-ltb sum limit less))

pub returns : goal.returns
returns c =
    let counted = program_counted c.args.self.now.devices.items c.args.self.now.cells.items in
    let T : ℕ → Type 0 = λ n. IsTrue (ltb c.saturating_add-3.result 4294967296) ↔ (n + c.args.steps < 4294967296) in
    subst T (sym counted) (below_limit _ c.saturating_add-3.result 4294967296 (omega arith) (omega arith))
