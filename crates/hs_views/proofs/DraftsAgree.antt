-- The drafts of the code are the bodies of the model.
use Rattle.std.proofs.Common.{◌≡◌, ◌≤◌, ℕ, suc, ◌/◌, ◌++◌, List, [], ◌∷◌, length, Option, Some, None, refl, sym, ap, subst, ◌∙◌, inl, inr, arith}
use Rattle.iss_base.specs.Lists.{In}
use Rattle.iss_sb.specs.declared.effects.Params.{Params}
use Rattle.iss_sb.specs.declared.effects.To.{To}
use Rattle.iss_sb.specs.declared.effects.To.TheVariants.{All as To_all}
use Rattle.iss_sb.specs.Calls.{AreToNodes, IsToNode}
use Rattle.iss_sb.specs.Statements.{four_bytes, two_bytes}
use Rattle.iss_sb.specs.declared.content.Content.{Content}
use Rattle.hs_tree.specs.declared.certificates.Certificate.{Certificate}
use Rattle.hs_tree.specs.declared.messages.Message.{Message}
use Rattle.hs_tree.specs.declared.messages.Body.{Body}
use Rattle.hs_tree.specs.declared.messages.Body.TheVariants.{NewView, Prepare, Vote}
use Rattle.hs_tree.specs.Certificates.{view_of}
use Rattle.hs_tree.specs.Statements.{node_digest, statement, vote_statement}
use Rattle.hs_tree.specs.Tree.{Form}
use Rattle.hs_views.specs.declared.drafts.Draft.{Draft}
use Rattle.hs_views.specs.declared.drafts.Recipient.TheVariants.{All as Recipient_all, Leader}
use Rattle.hs_views.specs.Drafts.{AreDrafts, IsDraft, count_of}
use Rattle.hs_views.specs.Sending.{signed_from, to_leader, vote_for}

pub vote-drafted : (form : Form) (p : Params) (phase view round : ℕ) (d said : List ℕ) → round ≡ view / 65536 → said ≡ vote_statement form p phase view d →
    IsDraft form p (record { to = Leader round; body = Vote phase view d; statement = said }) (vote_for p phase view d)
vote-drafted form p phase view round d said hr h = record {
  message = λ i. (to_leader p (sym hr i), Vote phase view d) ∷ [];
  statement = h;
}

pub round-drafted : (form : Form) (p : Params) (round v : ℕ) (high : Certificate) (said : List ℕ) → v ≡ view_of high → said ≡ statement form p 1 (two_bytes round ++ four_bytes v) →
    IsDraft form p (record { to = Leader round; body = NewView round high; statement = said }) ((to_leader p round, NewView round high) ∷ [])
round-drafted form p round v high said hv h = record {
  message = refl;
  statement = h ∙ ap (λ (z : ℕ). statement form p 1 (two_bytes round ++ four_bytes z)) hv;
}

pub proposal-drafted : (form : Form) (p : Params) (view : ℕ) (what : Content) (just : Certificate) (d said : List ℕ) → d ≡ node_digest form p view what just → said ≡ statement form p 2 (four_bytes view ++ d) →
    IsDraft form p (record { to = Recipient_all; body = Prepare view what just; statement = said }) ((To_all, Prepare view what just) ∷ [])
proposal-drafted form p view what just d said hd h = record {
  message = refl;
  statement = h ∙ ap (λ (z : List ℕ). statement form p 2 (four_bytes view ++ z)) hd;
}

-- ---- The number of messages

pub drafts-long : (form : Form) (p : Params) (d : Option Draft) (xs : List (To × Body)) → AreDrafts form p d xs → count_of d ≡ length xs
drafts-long form p None xs h = ap (λ (z : List (To × Body)). length z) (sym h)
drafts-long form p (Some d) xs h = ap (λ (z : List (To × Body)). length z) (sym h.message)

pub count-few : (d : Option Draft) → count_of d ≤ 1
count-few None = omega arith
count-few (Some d) = omega arith

-- ---- One more message

pub to-append : {M : Type 0} (n : ℕ) (xs ys : List (To × M)) → AreToNodes n xs → AreToNodes n ys → AreToNodes n (xs ++ ys)
to-append n [] ys h g = g
to-append n (x ∷ xs) ys h g = (h.0, to-append n xs ys h.1 g)

pub one-addressed : (n : ℕ) (old new : List (To × Message)) (to : To) (msg : Message) → new ≡ old ++ (to, msg) ∷ [] → IsToNode n to → AreToNodes n old → AreToNodes n new
one-addressed n old new to msg e node all = subst (λ (z : List (To × Message)). AreToNodes n z) (sym e) (to-append n old ((to, msg) ∷ []) all (node, tt))

-- ---- Signed bodies

-- the body of a message that is sent was a draft
pub sent-drafted : (form : Form) (p : Params) (me leaf : ℕ) (ds : List (To × Body)) (to : To) (msg : Message) → In {A = To × Message} (to, msg) (signed_from form p me leaf ds) → In {A = To × Body} (to, msg.body) ds
sent-drafted form p me leaf [] to msg h = absurd h
sent-drafted form p me leaf (x ∷ ds) to msg (inl e) = inl (ap (λ (z : To × Message). let y : To × Body = (z.0, z.1.body) in y) e)
sent-drafted form p me leaf (x ∷ ds) to msg (inr k) = inr (sent-drafted form p me (suc leaf) ds to msg k)
