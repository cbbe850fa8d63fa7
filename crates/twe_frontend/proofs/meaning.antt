mod TreeCauses
