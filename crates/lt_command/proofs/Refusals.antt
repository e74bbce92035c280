-- What the kinds of a failed parse say.
use Rattle.std.proofs.Common.{◌≡◌, false, [], ◌∷◌, arith}
use Rattle.std.proofs.lemmas.Bool.{ne_eqb}
use Rattle.clap.specs.Kinds.{IsAmong, Kinds}
use Rattle.clap.specs.Walk.{is_empty}
use Rattle.clap.specs.declared.error.kind.ErrorKind.{ErrorKind}

-- where there is a kind, there are some
pub some_kinds : (kind : ErrorKind) (kinds : Kinds) → IsAmong kind kinds → is_empty kinds ≡ false
some_kinds kind [] among = absurd among
some_kinds kind (k ∷ ks) among = ne_eqb _ _ (λ e. omega (arith, e))
