use Rattle.std.proofs.Common.{◌≡◌, ◌∙◌, ℕ, Bool, true, false, if◌then◌else◌, List, Option, Vec, Global, ap, sym}
use Rattle.std.specs.Option.{option_map}
use Rattle.shadowd.proofs.settings.Settings.of.Goals.{then-serves+in_ok-token_of, else-serves}
use Rattle.shadowd.proofs.settings.Settings.of.Goals as goal

-- the token that is taken, by whether it is asked for
then_so : (serves : Bool) (token some none : Option (List ℕ)) → serves ≡ true → token ≡ some → token ≡ (if serves then some else none)
then_so serves token some none is same = same ∙ sym (ap (λ (s : Bool). if s then some else none) is)

else_so : (serves : Bool) (token some none : Option (List ℕ)) → serves ≡ false → token ≡ none → token ≡ (if serves then some else none)
else_so serves token some none is same = same ∙ sym (ap (λ (s : Bool). if s then some else none) is)

bytes : Option (Vec ℕ Global) → Option (List ℕ)
bytes token = option_map (λ t. t.items) token

pub returns : goal.returns
unfolding bytes
returns g c = λ told. record {
  journal = c.in_ok-value_or.ensures told;
  listen = c.in_ok-value_or-2.ensures told;
  follower = c.in_ok-value_or-3.ensures told;
  workers = c.in_ok-number_or.ensures.number told;
  idle = c.in_ok-number_or-2.ensures.number told;
  connections = c.in_ok-connections_of.ensures told;
  make = c.in_ok-make_of.ensures told;
  reserve = c.in_ok-number_or-3.ensures.number told;
  end = c.in_ok-value_or-4.ensures told;
  token = elim c.if-serves.branch [
    | then-serves+in_ok-token_of w ↦ then_so c.args.serves _ _ _ w.if-serves.true (ap bytes w.result-is ∙ w.in_ok-token_of.ensures told)
    | else-serves w ↦ else_so c.args.serves _ _ _ w.if-serves.false (ap bytes w.result-is)
  ];
}
