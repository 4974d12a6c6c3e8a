-- A certificate that is shown, as the code notes it.
use Rattle.std.proofs.Common.{◌≡◌, ℕ, Bool, true, false, List, Option, Some, None, refl, sym, ap, ◌∙◌, subst}
use Rattle.std.specs.Prelude.{nat_lt}
use Rattle.iss_sb.specs.declared.effects.Params.{Params}
use Rattle.hs_tree.specs.declared.certificates.Certificate.{Certificate}
use Rattle.hs_tree.specs.declared.certificates.Certificate.TheVariants.{Votes}
use Rattle.iss_sb.specs.declared.signers.Signed.{Signed}
use Rattle.hs_tree.specs.Certificates.{view_of}
use Rattle.hs_tree.specs.Tree.{Node as Tree_node}
use Rattle.sb_chained.specs.declared.links.Link.{Link}
use Rattle.sb_chained.specs.declared.links.Lock.{Lock}
use Rattle.sb_chained.specs.declared.state.Node.{Node}
use Rattle.sb_chained.specs.Links.{linked, raised_by}
use Rattle.sb_chained.specs.Rules.{State, find, higher, noted, with_shown}
use Rattle.sb_chained.specs.Refines.{RefinesState}
use Rattle.sb_chained.proofs.Refinement.LinksAgree.{linked-some}

module _ (p : Params) (m : Node) (k : State) (h : RefinesState p m k) (view phase : ℕ) (d : List ℕ) (votes : List Signed) where
  abbrev q : Certificate
  q = Votes view phase d votes

  pub note-none : linked (find k.tree d) ≡ None → RefinesState p m (with_shown k (Some (Votes view phase d votes)))
  note-none e = go (find k.tree d) e
    where
      go : (o : Option Tree_node) → linked o ≡ None → RefinesState p m (noted k (Votes view phase d votes) o)
      go None f = h
      go (Some x) f = absurd cc

  pub note-some : (link : Link) (lock : Lock) (high : Certificate) → linked (find k.tree d) ≡ Some link → lock ≡ raised_by m.lock link → high ≡ higher m.high (Votes view phase d votes) →
      RefinesState p (record m { lock = lock; high = high }) (with_shown k (Some (Votes view phase d votes)))
  note-some link lock high e hl hh =
      let a = linked-some (find k.tree d) link e in
      subst (λ (o : Option Tree_node). RefinesState p (record m { lock = lock; high = high }) (noted k (Votes view phase d votes) o)) (sym a.is) (record {
        view = h.view;
        nodes = h.nodes;
        high = hh ∙ ap (λ (c : Certificate). higher c (Votes view phase d votes)) h.high;
        lock = hl ∙ (λ i. raised_by (h.lock i) (sym a.link i));
        casts = h.casts;
        turns = h.turns;
        low = h.low;
        full = h.full;
        votes = h.votes;
        news = h.news;
      })

pub higher-is : (b : Bool) (c q : Certificate) → nat_lt (view_of c) (view_of q) ≡ true → q ≡ higher c q
higher-is b c q h = rw h refl

pub higher-not : (c q : Certificate) → nat_lt (view_of c) (view_of q) ≡ false → c ≡ higher c q
higher-not c q h = rw h refl
