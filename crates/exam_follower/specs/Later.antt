-- What no call changes stays so over several calls.
use Rattle.std.proofs.Common.{refl, ◌∙◌, arith, IsTrue}
use Rattle.exam_edge.specs.Lent.{IsLent}
use Rattle.answer_journal.specs.Journal.{tells_of, identity_of, faults_of}
use Rattle.exam_office.specs.Running.{Running}
use Rattle.exam_office.specs.Writing.{IsSameOffice}
use Rattle.exam_follower.specs.Followers.{FollowerState, IsSameFollower}
use Rattle.exam_follower.specs.Shipping.{IsReadOnly}

office_itself : {D : Type 0} (o : Running D) → IsSameOffice o o
office_itself o = record { bank = refl; plan = refl; base = refl; opened = refl }

office_still : {D : Type 0} (o p q : Running D) → IsSameOffice o p → IsSameOffice p q
    → IsSameOffice o q
office_still o p q a b = record {
  bank = b.bank ∙ a.bank;
  plan = b.plan ∙ a.plan;
  base = b.base ∙ a.base;
  opened = b.opened ∙ a.opened;
}

lent_itself : {D : Type 0} (o : Running D)
    → IsLent tells_of identity_of faults_of o.journal o.journal
lent_itself o = record { grows = omega arith; tells = refl; identity = refl }

lent_still : {D : Type 0} (o p q : Running D)
    → IsLent tells_of identity_of faults_of o.journal p.journal
    → IsLent tells_of identity_of faults_of p.journal q.journal
    → IsLent tells_of identity_of faults_of o.journal q.journal
lent_still o p q a b = record {
  grows = omega (arith, a.grows, b.grows);
  tells = b.tells ∙ a.tells;
  identity = b.identity ∙ a.identity;
}

pub same_itself : {D : Type 0} (f : FollowerState D) → IsSameFollower f f
same_itself f = record {
  same = office_itself f.office;
  found_same = refl;
  opened_same = refl;
  frame = lent_itself f.office;
}

pub same_still : {D : Type 0} (f g h : FollowerState D) → IsSameFollower f g → IsSameFollower g h
    → IsSameFollower f h
same_still f g h a b = record {
  same = office_still f.office g.office h.office a.same b.same;
  found_same = b.found_same ∙ a.found_same;
  opened_same = b.opened_same ∙ a.opened_same;
  frame = lent_still f.office g.office h.office a.frame b.frame;
}

pub read_itself : {D : Type 0} (o : Running D) → IsReadOnly o o
read_itself o = record {
  read = record {
    same = office_itself o;
    marks = refl;
    doubt = refl;
    content = λ told. refl;
    accounts = λ told. refl;
    aside = λ told. refl;
    length = refl;
    limit = refl;
    version = refl;
    start = refl;
  };
  frame = lent_itself o;
}

pub read_still : {D : Type 0} (o p q : Running D) → IsReadOnly o p → IsReadOnly p q
    → IsReadOnly o q
read_still o p q a b =
    let then : IsTrue (tells_of o.journal) → IsTrue (tells_of p.journal) =
    λ told. a.frame.tells ∙ told in
    record {
      read = record {
        same = office_still o p q a.read.same b.read.same;
        marks = b.read.marks ∙ a.read.marks;
        doubt = b.read.doubt ∙ a.read.doubt;
        content = λ told. b.read.content (then told) ∙ a.read.content told;
        accounts = λ told. b.read.accounts (then told) ∙ a.read.accounts told;
        aside = λ told. b.read.aside (then told) ∙ a.read.aside told;
        length = b.read.length ∙ a.read.length;
        limit = b.read.limit ∙ a.read.limit;
        version = b.read.version ∙ a.read.version;
        start = b.read.start ∙ a.read.start;
      };
      frame = lent_still o p q a.frame b.frame;
    }
