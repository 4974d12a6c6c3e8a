-- The definitions, evaluated on the export of one epoch of three empty batches.
use Rattle.std.proofs.Common.{◌≡◌, true, List, [], ◌∷◌, ◌++◌, codes, refl, replicate}
use Rattle.std.specs.Fmt.{digits}
use Rattle.hex.specs.Hex.{encode_with}
use Rattle.iss_log.specs.Chains.{end_of}
use Rattle.iss_log.specs.declared.chains.End.{End}
use Rattle.iss_request.specs.Formats.{spell_batch, spell_count, spell_value}
use Rattle.iss_request.specs.declared.requests.Value.{Value}
use Rattle.iss_request.specs.declared.requests.Value.TheVariants.{Nil as Value_nil, Batch as Value_batch}
use Rattle.iss_checkpoint.specs.Votes.{Voters, is_cert}
use Rattle.iss_checkpoint.specs.declared.votes.Cert.{Cert}
use Rattle.iss_schedule.specs.Headers.{setup_with}
use Rattle.iss_schedule.specs.Words.{ended}
use Rattle.iss_request.specs.declared.setups.Setup.{Setup}
use Rattle.iss_audit.specs.Exports.{EachEpoch, IsCertified, body_lines, slots_of, text_of, value_line}
use Rattle.iss_audit.specs.Refusals.{IsEpochFault}
use Rattle.iss_audit.specs.declared.errors.EpochFault.TheVariants.{WrongChain}

three : Setup
three = setup_with (0 ∷ 0 ∷ 0 ∷ 3 ∷ 3 ∷ 4 ∷ 8 ∷ 0 ∷ 1 ∷ 4 ∷ []) [] []

-- a certificate without signers, so that its line is short
unsigned : Cert
unsigned = record { epoch = record { 0 = 0 }; chain = replicate 32 171; requests = 0; signers = [] }

empty : List Value
empty = Value_batch [] ∷ Value_batch [] ∷ Value_batch [] ∷ []

worked_text : text_of (record { setup = three; epochs = record { values = empty; cert = unsigned } ∷ [] })
    ≡ codes "iss 1\nmodule relay\nf 0\nepoch 3\nbuckets 3\nbatch 4\nwindow 8\npolicy simple\nclients 1\nkeys 4\nfaulty none\n"
    ++ codes "value 0100\nvalue 0100\nvalue 0100\n"
    ++ codes "cert abababababababababababababababababababababababababababababababab000000000000000000\nend\n"
unfolding three unsigned empty digits encode_with spell_value spell_batch spell_count
worked_text = refl

nil_line : value_line 1 Value_nil ≡ codes "value 00"
unfolding spell_value encode_with
nil_line = refl

-- no epoch yet
no_epoch : ended (body_lines 1 []) ≡ codes "end\n"
no_epoch = refl

-- three values fill the epoch
whole : slots_of three 0 [] ≡ 3
unfolding three
whole = refl

-- Keys are not evaluated here: that the certificate is valid is a premise. Then it certifies the epoch if it states the
-- end of the log, and the chain is wrong if it does not.
certified : (w : Voters) (c : Cert) → c.epoch.0 ≡ 0 → is_cert w c ≡ true → (let stated : End = record { chain = c.chain; requests = c.requests } in stated) ≡ end_of three.version empty
    → EachEpoch (IsCertified three w) [] (record { values = empty; cert = c } ∷ [])
unfolding empty
certified w c epoch valid stated = (record { epoch = epoch; valid = valid; stated = stated }, tt)

wrong_chain : (w : Voters) (c : Cert) → is_cert w c ≡ true → ((let stated : End = record { chain = c.chain; requests = c.requests } in stated) ≡ end_of three.version empty → ⊥)
    → IsEpochFault three w [] (record { values = empty; cert = c }) WrongChain
unfolding empty
wrong_chain w c valid other = (valid, other)
