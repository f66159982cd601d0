-- `put_item` meets its contract, arm by arm. Assumes nothing.
use Rattle.script.proofs.Appending.{wrote}
use Rattle.text.proofs.Naming.{item-arm, item-last}
use Rattle.text.proofs.item.put_item.Goals as goal

pub returns-in-128 : goal.returns-in-128
returns-in-128 c = item-arm c.args.item.now c.byte-tag.ensures 0x80 c.in-128.is c.put_answer.ensures

pub returns-in-129 : goal.returns-in-129
returns-in-129 c = item-arm c.args.item.now c.byte-tag.ensures 0x81 c.in-129.is (wrote c.put.ensures)

pub returns-in-130 : goal.returns-in-130
returns-in-130 c = item-arm c.args.item.now c.byte-tag.ensures 0x82 c.in-130.is (wrote c.put-in-130.ensures)

pub returns-in-131 : goal.returns-in-131
returns-in-131 c = item-arm c.args.item.now c.byte-tag.ensures 0x83 c.in-131.is c.put_ended.ensures

pub returns-in-132 : goal.returns-in-132
returns-in-132 c = item-arm c.args.item.now c.byte-tag.ensures 0x84 c.in-132.is c.put_received.ensures

pub returns-in-133 : goal.returns-in-133
returns-in-133 c = item-arm c.args.item.now c.byte-tag.ensures 0x85 c.in-133.is c.put_block.ensures

pub returns-in-143 : goal.returns-in-143
returns-in-143 c = item-arm c.args.item.now c.byte-tag.ensures 0x8F c.in-143.is c.put_runs.ensures

pub returns-in_default : goal.returns-in_default
returns-in_default c = item-last c.args.item.now c.byte-tag.ensures c.in_default.in_default-own.rest c.put-in_default.ensures
