use Rattle.std.proofs.Common.{◌≡◌, take}
use Rattle.cc_text_reading.proofs.imports.copy_imports.Given as goal

-- the copies so far are those of the imports so far
abbrev pub invariant-loop-import : goal.invariant-loop-import
invariant-loop-import l = l.copies.items ≡ take l.import-index l.imports
