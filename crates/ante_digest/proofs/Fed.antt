-- One piece after another into a hasher.
use Rattle.std.proofs.Common.{ℕ, List, [], ◌++◌, sym, subst, append_assoc, append-nil}
use Rattle.sha2.specs.Hashers.{Holds256}
use Rattle.sha2.specs.declared.Sha256.{Sha256}
use Rattle.ante_digest.specs.Feeds.{Feeds}

pub nothing : (h : Sha256) → Feeds h h []
nothing h = record { is = λ m holds. subst (Holds256 h) (sym (append-nil m)) holds }

pub onto : {h0 h1 h2 : Sha256} {p rest : List ℕ} → Feeds h0 h1 p → Feeds h1 h2 rest → Feeds h0 h2 (p ++ rest)
onto {h0} {h1} {h2} {p} {rest} first second = record { is = λ m holds. subst (Holds256 h2) (append_assoc m p rest) (second.is (m ++ p) (first.is m holds)) }
