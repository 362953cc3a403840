-- `sent_bytes`: a number for each case.
use Rattle.decisions.proofs.Ways.{data_bytes}
use Rattle.decisions.proofs.sent_bytes.Goals as goal

pub returns-in-AnswerVersion : goal.returns-in-AnswerVersion
returns-in-AnswerVersion c random = rw c.in-AnswerVersion.is

pub returns-in-Lease : goal.returns-in-Lease
returns-in-Lease c random = rw c.in-Lease.is (c.lease_bytes.ensures random)

pub returns-in-Extend : goal.returns-in-Extend
returns-in-Extend c random = rw c.in-Extend.is c.extension_bytes.ensures

pub returns-in-Establish : goal.returns-in-Establish
returns-in-Establish c random = rw c.in-Establish.is (c.session_bytes.ensures c.args.c 0)

pub returns-in-EndSession : goal.returns-in-EndSession
returns-in-EndSession c random = rw c.in-EndSession.is

pub returns-in-SendData : goal.returns-in-SendData
returns-in-SendData c random = rw c.in-SendData.is (data_bytes c.args.m.now c.requires.1)

pub returns-in-Nothing : goal.returns-in-Nothing
returns-in-Nothing c random = rw c.in-Nothing.is
