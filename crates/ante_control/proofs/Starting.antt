-- The chain of genesis alone.
use Rattle.std.proofs.Common.{◌≡◌, ℕ, ◌≤◌, List, [], ◌∷◌, ◌++◌, length, Option, Some, None, IsNone, refl, sym, ap, subst, ◌∙◌, arith}
use Rattle.ante_pack.specs.Forms.{string, varuint, varuint_bytes}
use Rattle.ante_pack.specs.Packed.{u32, u64, name, digest}
use Rattle.ante_types.specs.Chain.{block, header}
use Rattle.ante_types.specs.Genesis.{genesis_head}
use Rattle.ante_types.specs.declared.chain.Genesis.{Genesis}
use Rattle.ante_types.specs.declared.chain.Head.{Head}
use Rattle.ante_types.specs.declared.chain.Receipt.{Receipt}
use Rattle.ante_undo.specs.Stack.{Stack, opened}
use Rattle.ante_machine.specs.Stacks.{Pending}
use Rattle.ante_fork.specs.Tree.{Tree, id_of, root, genesis_block}
use Rattle.ante_fork.proofs.Added.{genesis_first, genesis_tree}
use Rattle.ante_control.specs.Chosen.{started}
use Rattle.ante_control.specs.Held.{IsHeld}
use Rattle.ante_control.specs.Making.{Making, roomy_block, most_block_bytes}
use Rattle.ante_control.specs.Shown.{standing, info_shown}
use Rattle.ante_control.specs.Tabled.{IsStanding}

head_is : (g : Genesis) → genesis_head g ≡ record { num = 1; id = id_of (genesis_block g) }
unfolding genesis_head
head_is g = refl

pub is_started : (g : Genesis) (t : Tree) (none a : List Head) (head : Head) → t ≡ root g.producers (genesis_block g) → none ≡ [] → a ≡ none ++ head ∷ [] → head ≡ genesis_head g →
    record { tree = t; applied = a } ≡ started g
is_started g t none a head e n f h =
    let b : a ≡ record { num = 1; id = id_of (genesis_block g) } ∷ [] = f ∙ ap (λ xs. xs ++ head ∷ []) n ∙ ap (λ x. x ∷ []) (h ∙ head_is g) in
    λ i. record { tree = e i; applied = b i }

pub no_receipts : length (block.spell (roomy_block [])) ≤ most_block_bytes
unfolding block header u32 u64 name digest string varuint varuint_bytes
no_receipts = omega arith

module _ {W : Type 0} where
  pub root_standing : (g : Genesis) (t : Tree) (a : List Head) (chain : List ℕ) (s : Stack W) (q : Option (Making W)) (n : ℕ) → t ≡ root g.producers (genesis_block g) → s ≡ opened s.top 1 →
      1 ≤ length g.producers → length g.producers ≤ 21 → IsStanding (standing t a chain s q n)
  root_standing g t a chain s q n e alone some few =
      subst (λ x. IsStanding (standing x a chain s q n)) (sym e) (record {
        no_shelf = ap (λ z. z.shelf) alone;
        revision = ap (λ z. z.revision) alone ∙ sym (genesis_first g);
        enough = omega (arith, ap (λ z. z.revision) alone);
        open_up = tt;
        low = omega (arith, genesis_first g);
        topmost = tt;
        tree = genesis_tree g some few;
      })

  nothing : (o : Option (Pending W)) → IsNone o → None ≡ info_shown o
  nothing None h = refl
  nothing (Some p) h = cc

  pub root_held : (t : Tree) (rs : List Receipt) (o : Option (Pending W)) → rs ≡ [] → IsNone o → IsHeld t None rs 0 o
  root_held t rs o e none =
      subst (λ x. IsHeld t None x 0 o) (sym e) (record { same = nothing o none; next = tt; bytes = refl; small = no_receipts; fits = tt })
