-- The draft that broadcasts a quorum certificate is the body of the model.
use Rattle.std.proofs.Common.{◌≡◌, ℕ, ◌==◌, ◌++◌, Bool, true, false, if◌then◌else◌, List, [], ◌∷◌, refl, sym, ap, ◌∙◌}
use Rattle.iss_sb.specs.declared.effects.Params.{Params}
use Rattle.iss_sb.specs.declared.effects.To.TheVariants.{All as To_all}
use Rattle.iss_sb.specs.Statements.{four_bytes}
use Rattle.hs_tree.specs.declared.certificates.Certificate.{Certificate}
use Rattle.hs_tree.specs.declared.messages.Body.{Body}
use Rattle.hs_tree.specs.declared.messages.Body.TheVariants.{PreCommit, Commit, Decide}
use Rattle.hs_tree.specs.Certificates.{digest_of}
use Rattle.hs_tree.specs.Statements.{stated, statement}
use Rattle.hs_tree.specs.Tree.{basic}
use Rattle.hs_views.specs.declared.drafts.Recipient.TheVariants.{All as Recipient_all}
use Rattle.sb_hotstuff.specs.Drafts.{IsDraft}
use Rattle.sb_hotstuff.specs.HotStuff.{shows}

abbrev kind_of : ℕ → ℕ
kind_of phase = if phase == 1 then 3 else (if phase == 2 then 4 else 5)

pub shown-drafted : (p : Params) (phase view kind : ℕ) (c : Certificate) (body : Body) (d said : List ℕ) → body ≡ shows phase view c → d ≡ digest_of c → kind ≡ kind_of phase → said ≡ statement basic p kind (four_bytes view ++ d) →
    IsDraft p (record { to = Recipient_all; body = body; statement = said }) ((To_all, shows phase view c) ∷ [])
shown-drafted p phase view kind c body d said hb hd hk h = record {
  message = λ i. (To_all, sym hb i) ∷ [];
  statement = h ∙ (λ i. statement basic p (hk i) (four_bytes view ++ hd i)) ∙ sym (states (phase == 1) (phase == 2)) ∙ ap (λ (z : Body). stated basic p z) (sym hb);
}
  where
    states : (a b : Bool) → stated basic p (if a then PreCommit view c else (if b then Commit view c else Decide view c)) ≡ statement basic p (if a then 3 else (if b then 4 else 5)) (four_bytes view ++ digest_of c)
    states true b = refl
    states false true = refl
    states false false = refl
