-- Traces worked out by the definitions.
use Rattle.std.proofs.Common.{[], ◌∷◌, codes, inl, refl, arith}
use Rattle.std.specs.Fmt.{digits}
use Rattle.lt_blocks.specs.Blocks.{IsBadLine, IsTrace}

-- one block, and a script behind it
one_block : IsTrace (codes "trace 1 1 2\n0 0\n0 1\nscript\nshow r;") (record { number = 1; programs = 1; entries = record { worker = 0; code = 0 } ∷ record { worker = 0; code = 1 } ∷ [] } ∷ []) (codes "show r;")
unfolding digits
one_block = record {
  within = (
    record {
      header = record { batch = omega arith; programs = omega arith; entries = omega arith };
      entries = (record { worker = omega arith; code = omega arith }, (record { worker = omega arith; code = omega arith }, tt));
    },
    tt,
  );
  parts = refl;
}

-- no line at all
no_line : IsBadLine [] 1
no_line = inl (record { blocks = []; within = tt; rest = []; parts = refl; line_is = refl; no_block = λ h more w e. absurd cc; no_script = λ more e. absurd cc })
